use Rattle.std.specs.Prelude.{[]}
use Rattle.std.proofs.Common.{subst, sym}
use Rattle.tko_client.specs.Clients.{IsReadyAfter}
use Rattle.tko_event_threads.proofs.host.make_client.Goals as goal

pub returns-clause-ready : goal.returns-clause-ready
returns-clause-ready c config =
    subst (IsReadyAfter config [] []) (sym c.note_address.ensures) (c.new-client.ensures.ready config)

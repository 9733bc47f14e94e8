use Rattle.tko_client.proofs.ArrivingLemmas.{stopped_come}
use Rattle.tko_client.proofs.arriving.stop_keys.Goals as goal

pub go_on_all-requires-clause-ready : goal.go_on_all-requires-clause-ready
go_on_all-requires-clause-ready g c =
    c.stop_send.ensures.ready c.args.parts.now.config c.requires.ready.ready.under_way

pub returns-clause-taken : goal.returns-clause-taken
returns-clause-taken g c =
    stopped_come g.H.Health g.T.Trails c.args.unsent c.args.server c.args.keys.now
    c.stop_send.new.keys c.go_on_all.new.keys c.args.parts.now c.go_on_all.new.parts
    c.requires.room
    c.stop_send.ensures.stopped c.go_on_all.ensures.gone

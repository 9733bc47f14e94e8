use Rattle.std.proofs.Common.{◌≡◌, map, rules}
use Rattle.tko_route.specs.Calls.{Told}
use Rattle.tko_reply.proofs.ResultLemmas.{on_ok_if}
use Rattle.tko_session.specs.Working.{Between}
use Rattle.tko_session.proofs.ReadyLemmas.{went_item, went_ready}
use Rattle.tko_session.proofs.session.Session.next.Goals as goal

pub returns-in_ok-next_item-in-Between-clause-ok : goal.returns-in_ok-next_item-in-Between-clause-ok
returns-in_ok-next_item-in-Between-clause-ok g c =
    let between : c.args.self.now.work ≡ Between = search rules in
    went_item c.args.config.now c.args.health.now between c.in_ok-next_item-in-Between.ensures.ok

pub returns-in-Read-clause-ready : goal.returns-in-Read-clause-ready
returns-in-Read-clause-ready g c =
    on_ok_if c.begin_request.result c.begin_request.ensures.ok (λ step on.
    went_ready c.args.config.now c.args.self.now c.begin_request.new.self (map Told on.items) step c.requires.ready.ready on.is)

pub returns-in-Tried-clause-ready : goal.returns-in-Tried-clause-ready
returns-in-Tried-clause-ready g c =
    on_ok_if c.go_on.result c.go_on.ensures.ok (λ step on.
    went_ready c.args.config.now c.args.self.now c.go_on.new.self (map Told on.items) step c.requires.ready.ready on.is)

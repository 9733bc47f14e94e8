use Rattle.std.proofs.Common.{rules}
use Rattle.tko_mux.specs.declared.asking.Given.TheVariants.{Input}
use Rattle.tko_mux.proofs.MuxLemmas.{called, asks_after, has_request, made}
use Rattle.tko_mux.proofs.mux.Mux.act.Goals as goal

pub send-stopped-requires-clause-asked : goal.send-stopped-requires-clause-asked
send-stopped-requires-clause-asked g c =
    asks_after g.S.Asking.acts g.S.Asking.awaited _ c.args.self.now
    c.args.number c.args.input c.in_ok-asked.asked c.in_ok-asked.did c.act.new.self c.self.view_is
    (called g.S.Asking.acts g.S.Asking.awaited g.S.Asking.asks_for c.self.inside.roster
    c.args.number (Input c.args.input) c.in_ok-asked.asked c.in_ok-asked.did c.act.new.self (search rules))
    c.requires.order.linked

pub send-stopped-requires-clause-request : goal.send-stopped-requires-clause-request
send-stopped-requires-clause-request g c =
    has_request g.S.Asking.acts g.S.Asking.awaited g.S.Asking.asks_for c.self.inside.roster
    c.args.number (Input c.args.input) c.in_ok-asked.asked c.in_ok-asked.did c.act.new.self
    (search rules)

pub returns-clause-some : goal.returns-clause-some
returns-clause-some g c =
    made g.S.Asking.acts g.S.Asking.awaited g.S.Asking.asks_for _ c.args.self.now c.args.number
    (Input c.args.input) c.args.due c.in_ok-asked.asked c.in_ok-asked.did c.send-stopped.result
    c.act.new.self c.send-stopped.new.self c.self.view_is
    (called g.S.Asking.acts g.S.Asking.awaited g.S.Asking.asks_for c.self.inside.roster
    c.args.number (Input c.args.input) c.in_ok-asked.asked c.in_ok-asked.did c.act.new.self (search rules))
    c.send-stopped.ensures.ends

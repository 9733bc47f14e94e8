use Rattle.std.proofs.Common.{rules}
use Rattle.tko_mux.specs.declared.asking.Given.TheVariants.{Outcome}
use Rattle.tko_mux.proofs.MuxLemmas.{called, has_request, loose_here, loose_may, made, takes_after}
use Rattle.tko_mux.proofs.mux.Mux.give.Goals as goal

pub act-requires-clause-may : goal.act-requires-clause-may
act-requires-clause-may g c = λ client is.
    loose_may g.S.Asking.awaited _ c.args.self.now c.args.number c.args.server client
    c.self.view_is c.requires.loose is

pub unreachable-requires : goal.unreachable-requires
unreachable-requires g c =
    loose_here g.S.Asking.awaited _ c.args.self.now c.args.number c.args.server c.self.view_is
    c.requires.loose (search rules)

pub send-stopped-requires-clause-asked : goal.send-stopped-requires-clause-asked
send-stopped-requires-clause-asked g c =
    takes_after g.S.Asking.acts g.S.Asking.awaited _ c.args.self.now
    c.args.number c.args.server c.args.came c.in-Some.asked c.in-Some.did c.act.new.self
    c.self.view_is
    (called g.S.Asking.acts g.S.Asking.awaited g.S.Asking.asks_for c.self.inside.roster
    c.args.number (Outcome c.args.server c.args.came) c.in-Some.asked c.in-Some.did c.act.new.self (search rules))
    c.requires.loose

pub send-stopped-requires-clause-request : goal.send-stopped-requires-clause-request
send-stopped-requires-clause-request g c =
    has_request g.S.Asking.acts g.S.Asking.awaited g.S.Asking.asks_for c.self.inside.roster
    c.args.number (Outcome c.args.server c.args.came) c.in-Some.asked c.in-Some.did c.act.new.self
    (search rules)

pub returns-clause-made : goal.returns-clause-made
returns-clause-made g c =
    made g.S.Asking.acts g.S.Asking.awaited g.S.Asking.asks_for _ c.args.self.now c.args.number
    (Outcome c.args.server c.args.came) c.args.due c.in-Some.asked c.in-Some.did c.send-stopped.result
    c.act.new.self c.send-stopped.new.self c.self.view_is
    (called g.S.Asking.acts g.S.Asking.awaited g.S.Asking.asks_for c.self.inside.roster
    c.args.number (Outcome c.args.server c.args.came) c.in-Some.asked c.in-Some.did c.act.new.self (search rules))
    c.send-stopped.ensures.ends

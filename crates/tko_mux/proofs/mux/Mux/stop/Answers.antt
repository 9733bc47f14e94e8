use Rattle.std.proofs.Common.{rules, sym, subst}
use Rattle.tko_mux.specs.Asks.{MayCall}
use Rattle.tko_mux.proofs.MuxLemmas.{called, loose_here, loose_may, stopped_linked, told}
use Rattle.tko_mux.proofs.mux.Mux.stop.Goals as goal

pub act-requires-clause-may : goal.act-requires-clause-may
act-requires-clause-may g c = λ client is.
    subst (MayCall g.S.Asking.may g.S.Asking.awaited client) (sym c.unsent.ensures)
    (loose_may g.S.Asking.awaited _ c.args.self.now c.args.number c.args.server client
    c.self.view_is c.requires.loose is)

pub unreachable-requires : goal.unreachable-requires
unreachable-requires g c =
    loose_here g.S.Asking.awaited _ c.args.self.now c.args.number c.args.server c.self.view_is
    c.requires.loose (search rules)

pub returns-clause-stopped : goal.returns-clause-stopped
returns-clause-stopped g c =
    told g.S.Asking.acts g.S.Asking.awaited _ c.args.self.now c.args.number
    c.args.server c.unsent.result c.in-Some.field-0-0 c.in-Some.did c.act.new.self c.self.view_is
    c.unsent.ensures
    (called g.S.Asking.acts g.S.Asking.awaited g.S.Asking.asks_for c.self.inside.roster
    c.args.number c.unsent.result c.in-Some.field-0-0 c.in-Some.did c.act.new.self (search rules))

pub returns-clause-linked : goal.returns-clause-linked
returns-clause-linked g c =
    stopped_linked g.S.Asking.acts g.S.Asking.awaited _ c.args.self.now
    c.args.number c.args.server c.unsent.result c.in-Some.field-0-0 c.in-Some.did c.act.new.self
    c.self.view_is c.unsent.ensures
    (called g.S.Asking.acts g.S.Asking.awaited g.S.Asking.asks_for c.self.inside.roster
    c.args.number c.unsent.result c.in-Some.field-0-0 c.in-Some.did c.act.new.self (search rules))
    c.requires.loose

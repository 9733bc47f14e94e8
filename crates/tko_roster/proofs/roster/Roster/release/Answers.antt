use Rattle.std.proofs.Common.{rules, ◌≡◌, None, subst, sym, ◌∙◌}
use Rattle.tko_roster.specs.Rosters.{AreReady}
use Rattle.tko_roster.proofs.SlotLemmas.{at_index, idle, ready_after, released}
use Rattle.tko_roster.proofs.roster.Roster.release.Goals as goal

pub returns-in_err-session-clause-none : goal.returns-in_err-session-clause-none
returns-in_err-session-clause-none g c =
    let none : c.index_mut.result.now ≡ None = search rules in
    idle _ c.args.self.now c.args.number c.from_residual.result c.index_mut.result.now
    c.empty.new.slot c.self.inside.parts c.self.view_is
    (at_index c.self.inside.slots.items c.args.number c.index_mut.result.now (search rules)
    c.index_mut.ensures.value) (search rules) (search rules)

pub returns-in_err-session-clause-ready : goal.returns-in_err-session-clause-ready
returns-in_err-session-clause-ready g c =
    ready_after g.S.Driven.ready c.self.inside.slots.items c.args.number c.index_mut.result.now
    c.empty.new.slot c.self.inside.parts c.self.inside.parts
    (at_index c.self.inside.slots.items c.args.number c.index_mut.result.now (search rules)
    c.index_mut.ensures.value)
    (subst (AreReady g.S.Driven.ready) (sym c.self.view_is) c.requires.ready)
    (λ session ready. ready)
    (λ session e. absurd (let f = sym c.empty.ensures.none ∙ e in cc))

pub returns-clause-some : goal.returns-clause-some
returns-clause-some g c =
    released g.S.Driven.awaited _ c.args.self.now c.args.number c.in_ok-session.session
    c.index_mut.result.now c.empty.new.slot c.self.view_is
    (at_index c.self.inside.slots.items c.args.number c.index_mut.result.now (search rules)
    c.index_mut.ensures.value) (search rules) c.empty.ensures.none c.requires.idle

pub returns-clause-ready : goal.returns-clause-ready
returns-clause-ready g c =
    ready_after g.S.Driven.ready c.self.inside.slots.items c.args.number c.index_mut.result.now
    c.empty.new.slot c.self.inside.parts c.self.inside.parts
    (at_index c.self.inside.slots.items c.args.number c.index_mut.result.now (search rules)
    c.index_mut.ensures.value)
    (subst (AreReady g.S.Driven.ready) (sym c.self.view_is) c.requires.ready)
    (λ session ready. ready)
    (λ session e. absurd (let f = sym c.empty.ensures.none ∙ e in cc))

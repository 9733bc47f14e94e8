use Rattle.std.proofs.Common.{rules, ◌≡◌, Some, subst, sym, ap, ◌∙◌}
use Rattle.std.specs.Prelude.{slice_get}
use Rattle.tko_roster.specs.Rosters.{AreReady, RosterState, session_at}
use Rattle.tko_roster.proofs.SlotLemmas.{acted, at_index, held, ready_after, uncalled}
use Rattle.tko_roster.proofs.roster.Roster.act.Goals as goal

pub act_in-requires-clause-ready : goal.act_in-requires-clause-ready
act_in-requires-clause-ready g c = λ session e.
    let is : slice_get c.self.inside.slots.items c.args.number ≡ Some c.index_mut.result.now =
    at_index c.self.inside.slots.items c.args.number c.index_mut.result.now (search rules)
    c.index_mut.ensures.value in
    let all = subst (AreReady g.S.Driven.ready) (sym c.self.view_is) c.requires.ready in
    all c.args.number session
    (held c.self.inside.slots.items c.args.number c.index_mut.result.now is ∙ e)

pub act_in-requires-clause-may : goal.act_in-requires-clause-may
act_in-requires-clause-may g c = λ session e.
    let is : slice_get c.self.inside.slots.items c.args.number ≡ Some c.index_mut.result.now =
    at_index c.self.inside.slots.items c.args.number c.index_mut.result.now (search rules)
    c.index_mut.ensures.value in
    c.requires.may session
    (ap (λ (s : RosterState _ _). session_at s.slots c.args.number) (sym c.self.view_is)
    ∙ held c.self.inside.slots.items c.args.number c.index_mut.result.now is ∙ e)

pub returns-clause-some : goal.returns-clause-some
returns-clause-some g c =
    acted g.S.Driven.acts _ c.args.self.now c.args.number c.args.input c.act_in.result
    c.index_mut.result.now c.act_in.new.slot c.act_in.new.parts c.self.view_is
    (at_index c.self.inside.slots.items c.args.number c.index_mut.result.now (search rules)
    c.index_mut.ensures.value)
    c.act_in.ensures.some

pub returns-clause-none : goal.returns-clause-none
returns-clause-none g c =
    uncalled _ c.args.self.now c.args.number c.act_in.result c.index_mut.result.now
    c.act_in.new.slot c.act_in.new.parts c.self.view_is
    (at_index c.self.inside.slots.items c.args.number c.index_mut.result.now (search rules)
    c.index_mut.ensures.value) c.act_in.ensures.none

pub returns-clause-ready : goal.returns-clause-ready
returns-clause-ready g c =
    ready_after g.S.Driven.ready c.self.inside.slots.items c.args.number c.index_mut.result.now
    c.act_in.new.slot c.self.inside.parts c.act_in.new.parts
    (at_index c.self.inside.slots.items c.args.number c.index_mut.result.now (search rules)
    c.index_mut.ensures.value)
    (subst (AreReady g.S.Driven.ready) (sym c.self.view_is) c.requires.ready)
    c.act_in.ensures.others c.act_in.ensures.ready

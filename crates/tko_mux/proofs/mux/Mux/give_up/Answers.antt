use Rattle.std.proofs.Common.{rules, refl, subst}
use Rattle.tko_mux.specs.Giving.{IsOverdueOn}
use Rattle.tko_mux.specs.Lines.{LineState}
use Rattle.tko_mux.proofs.GivingLemmas.{gave_loose, overdue_awaits}
use Rattle.tko_mux.proofs.OverdueLemmas.{same_line, all_wait, has_to_wait, none_is_overdue, one_gave}
use Rattle.tko_mux.proofs.mux.Mux.give_up.Goals as goal

pub returns-in_default-clause-ends : goal.returns-in_default-clause-ends
returns-in_default-clause-ends g c = (
  refl,
  all_wait g.S.Asking.has_next _ c.args.self.now c.args.server c.args.now c.index.result.now
      c.self.view_is (search rules) c.index.ensures
      (none_is_overdue g.S.Asking.has_next c.self.inside.roster c.args.server c.args.now
      c.index.result.now (search rules)),
)

pub returns-then-not-may_go_on-clause-ends : goal.returns-then-not-may_go_on-clause-ends
returns-then-not-may_go_on-clause-ends g c = (
  refl,
  all_wait g.S.Asking.has_next _ c.args.self.now c.args.server c.args.now c.index.result.now
      c.self.view_is (search rules) c.index.ensures
      (has_to_wait g.S.Asking.has_next c.self.inside.roster c.args.server c.args.now
      c.index.result.now c.in-Some.it (search rules) (search rules)),
)

pub give_up_on-requires-clause-overdue : goal.give_up_on-requires-clause-overdue
give_up_on-requires-clause-overdue g c =
    subst (λ (l : LineState). IsOverdueOn l c.args.now c.in-Some.it)
    (same_line c.self.inside.lines.items c.args.server c.index.result.now
    c.index_mut-line.result.now (search rules) c.index.ensures c.index_mut-line.ensures.value)
    (search rules)

pub give_up_on-requires-clause-awaits : goal.give_up_on-requires-clause-awaits
give_up_on-requires-clause-awaits g c =
    overdue_awaits g.S.Asking.awaited _ c.args.self.now c.args.server c.args.now c.in-Some.it
    c.index_mut-line.result.now c.self.view_is (search rules) c.index_mut-line.ensures.value
    c.requires.order.linked (give_up_on-requires-clause-overdue g c)

pub give-done-requires-clause-loose : goal.give-done-requires-clause-loose
give-done-requires-clause-loose g c =
    gave_loose g.S.Asking.awaited g.S.Asking.waits_for g.S.Asking.has_next _ c.args.self.now
    c.args.server c.args.now c.in-Some.it.number c.index_mut-line.result.now
    c.give_up_on.new.line c.self.view_is (search rules) c.index_mut-line.ensures.value
    c.requires.order.linked (search rules)

pub returns-clause-ends : goal.returns-clause-ends
returns-clause-ends g c =
    one_gave g.S.Asking.acts g.S.Asking.awaited g.S.Asking.asks_for g.S.Asking.waits_for
    g.S.Asking.has_next _ c.args.self.now c.args.server c.args.now c.args.due c.in-Some.it.number
    c.index_mut-line.result.now c.give_up_on.new.line c.give-done.result c.give-done.new.self
    c.self.view_is (search rules) c.index_mut-line.ensures.value (search rules)
    c.give-done.ensures.made

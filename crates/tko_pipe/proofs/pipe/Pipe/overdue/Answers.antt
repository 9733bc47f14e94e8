use Rattle.std.proofs.Common.{rules, ◌∙◌, sym}
use Rattle.tko_pipe.proofs.GivingLemmas.{next_overdue, none_overdue}
use Rattle.tko_pipe.proofs.pipe.Pipe.overdue.Goals as goal

pub returns-clause-some : goal.returns-clause-some
returns-clause-some c =
    next_overdue _ c.args.self.now c.args.now c.behind_gone-from.result c.overdue_from.result
    c.self.view_is (c.is_next_due.ensures.yes (search rules)) (search rules)
    (sym c.is_silent-silent.ensures ∙ c.if-silent.false) c.behind_gone-from.ensures
    c.overdue_from.ensures.some

pub returns-clause-none : goal.returns-clause-none
returns-clause-none c =
    none_overdue _ c.args.self.now c.args.now c.behind_gone-from.result c.overdue_from.result
    c.self.view_is c.behind_gone-from.ensures c.overdue_from.ensures.none

use Rattle.std.proofs.Common.{rules, ◌≡◌, Some, None, subst, sym}
use Rattle.std.specs.Prelude.{IfNone}
use Rattle.tko_mux.specs.Giving.{NoneOverdueOn}
use Rattle.tko_mux.proofs.OverdueLemmas.{none_overdue}
use Rattle.tko_mux.proofs.mux.giving_up.next_overdue.Goals as goal

pub returns-in_err-place-clause-none : goal.returns-in_err-place-clause-none
returns-in_err-place-clause-none c =
    let here : c.args.line.now.pipe ≡ Some c.in_ok-pipe.pipe.now = search rules in
    let none : c.overdue.result ≡ None = search rules in
    let is : c.from_residual-in_err-place.result ≡ None = search rules in
    subst (λ r. IfNone r (NoneOverdueOn c.args.line.now c.args.now)) (sym is)
    (none_overdue c.args.line.now c.in_ok-pipe.pipe.now c.args.now c.overdue.result here none
    c.overdue.ensures.none)

use Rattle.std.proofs.Common.{sym}
use Rattle.std.proofs.lemmas.Bool.{iff_false}
use Rattle.tko_runs.proofs.PointLemmas.{first_effective, first_ineffective, quiet_behind, quiet_effective, quiet_ineffective, second_change}
use Rattle.tko_runs.proofs.checking.point.PointSoFar.with.Goals as goal

pub returns-in-Quiet-true-true : goal.returns-in-Quiet-true-true
returns-in-Quiet-true-true c = λ s of own older shows effect stands.
    let in_arm = c.in-Quiet-true-true in
    quiet_effective s of own older _ c.args.effect.at (rw in_arm.is-0 at stands) (sym shows.number)
    (shows.quiet.0 in_arm.is-1) (effect.0 in_arm.is-2)

pub returns-in-Quiet-true-false : goal.returns-in-Quiet-true-false
returns-in-Quiet-true-false c = λ s of own older shows effect stands.
    let in_arm = c.in-Quiet-true-false in
    quiet_ineffective s of own older _ (rw in_arm.is-0 at stands)
    (shows.quiet.0 in_arm.is-1) (iff_false effect in_arm.is-2)

pub returns-in-Quiet-false-true : goal.returns-in-Quiet-false-true
returns-in-Quiet-false-true c = λ s of own older shows effect stands.
    let in_arm = c.in-Quiet-false-true in
    first_effective s of own older _ c.args.effect.at (rw in_arm.is-0 at stands) (sym shows.number)
    (iff_false shows.quiet in_arm.is-1) (effect.0 in_arm.is-2)

pub returns-in-Quiet-false-false : goal.returns-in-Quiet-false-false
returns-in-Quiet-false-false c = λ s of own older shows effect stands.
    let in_arm = c.in-Quiet-false-false in
    first_ineffective s of own older _ (rw in_arm.is-0 at stands)
    (iff_false shows.quiet in_arm.is-1) (iff_false effect in_arm.is-2)

pub returns-in-Changed-true-default : goal.returns-in-Changed-true-default
returns-in-Changed-true-default c = λ s of own older shows effect stands.
    let in_arm = c.in-Changed-true-default in
    quiet_behind s of own older _ (rw in_arm.is-0 at stands) (shows.quiet.0 in_arm.is-1)

pub returns-in-Changed-false-default : goal.returns-in-Changed-false-default
returns-in-Changed-false-default c = λ s of own older shows effect stands.
    let in_arm = c.in-Changed-false-default in
    second_change s of own older _ (rw in_arm.is-0 at stands) (iff_false shows.quiet in_arm.is-1)

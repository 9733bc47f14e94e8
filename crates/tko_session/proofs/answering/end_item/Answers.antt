use Rattle.std.proofs.Common.{ap}
use Rattle.tko_session.proofs.FollowingLemmas.{owed_or_not}
use Rattle.tko_session.proofs.EventLemmas.{begun_paid, never_short}
use Rattle.tko_session.proofs.PaidLemmas.{answered_paid}
use Rattle.tko_session.proofs.answering.end_item.Goals as goal

pub returns-then-not-is_quiet-clause-ends : goal.returns-then-not-is_quiet-clause-ends
returns-then-not-is_quiet-clause-ends g c = λ old answered. answered

pub returns-then-not-is_quiet-clause-begun : goal.returns-then-not-is_quiet-clause-begun
returns-then-not-is_quiet-clause-begun g c = λ begun none. begun none

pub returns-in_err-run_owed_round-clause-ends : goal.returns-in_err-run_owed_round-clause-ends
returns-in_err-run_owed_round-clause-ends g c = λ old answered.
    absurd (never_short (c.is_quiet.ensures.0 c.if-not-is_quiet.false) c.in_err-run_owed_round.ensures.round)

pub returns-in_err-run_owed_round-clause-begun : goal.returns-in_err-run_owed_round-clause-begun
returns-in_err-run_owed_round-clause-begun g c = λ begun none. begun_paid begun c.in_err-run_owed_round.ensures.round

pub returns-in_err-run_owed_round-clause-work : goal.returns-in_err-run_owed_round-clause-work
returns-in_err-run_owed_round-clause-work g c = ap (λ s. s.work) c.in_err-run_owed_round.ensures.none_owed

pub returns-clause-ends : goal.returns-clause-ends
returns-clause-ends g c = λ old answered.
    let run = c.in_ok-run_owed_round.ensures in
    answered_paid answered (c.is_quiet.ensures.0 c.if-not-is_quiet.false) run.round run.none_owed

pub returns-clause-busy : goal.returns-clause-busy
returns-clause-busy g c = λ owed. absurd (owed_or_not owed (ap (λ s. s.owes) c.in_ok-run_owed_round.ensures.none_owed))

pub returns-clause-begun : goal.returns-clause-begun
returns-clause-begun g c = λ begun none. begun_paid begun c.in_ok-run_owed_round.ensures.round

pub returns-clause-work : goal.returns-clause-work
returns-clause-work g c = ap (λ s. s.work) c.in_ok-run_owed_round.ensures.none_owed

use Rattle.std.proofs.Common.{◌≡◌, ◌+◌, ap, arith, length, length-append, refl}
use Rattle.tko_runs.proofs.OrderLemmas.{AreJudged-none, AreJudged-step, IsIllegalAt-step}
use Rattle.tko_runs.proofs.checking.state.judge.Goals as goal

pub loop-call-init : goal.loop-call-init
loop-call-init c = rw c.new-order.ensures (record { judged = AreJudged-none; count = refl })

pub loop-call-preserved : goal.loop-call-preserved
loop-call-preserved c =
    let calls = c.args.calls.now in
    let more = c.in_ok-push.ensures in
    record {
      judged = AreJudged-step calls c.loop-call.call-index c.loop-call.order c.push.new.self c.call-item.result c.in-Some.point
          c.loop-call-test.true c.call-item.is c.loop-call.invariant.judged c.in-Some.ensures more;
      count = rw (more, length-append) (omega (arith, c.loop-call.invariant.count));
    }

pub returns-in_default-clause-err : goal.returns-in_default-clause-err
returns-in_default-clause-err c =
    let number : length c.points.result.now + 1 ≡ c.loop-call.call-index + 1 =
    omega (arith, ap length c.points.ensures, c.loop-call.invariant.count) in
    IsIllegalAt-step c.args.calls.now c.loop-call.call-index c.loop-call.order c.call-item.result _
    c.loop-call-test.true c.call-item.is c.loop-call.invariant.judged number c.in_default.ensures

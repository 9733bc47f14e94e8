use Rattle.std.proofs.Common.{◌<◌, length, ap, arith}
use Rattle.std.proofs.lemmas.Result.{IfErr-weaker, IfOk-weaker, err_from_is_err_and}
use Rattle.tko_runs.proofs.FaultLemmas.{memory_alone}
use Rattle.tko_runs.proofs.CheckLemmas.{AreIn-end, AreIn-opened, AreIn-room_at, AreIn-step, IsLegalRun-in, IsOrder-in, IsRunFault-illegal, IsRunFault-step}
use Rattle.tko_runs.proofs.checking.check.Goals as goal

pub loop-event-init : goal.loop-event-init
loop-event-init c =
    rw c.events-events.ensures.value
    (AreIn-opened c.args.run.now c.in_ok-state.state c.settings.ensures.run (rw c.settings.ensures.value at c.in_ok-state.ensures))

pub enter-requires-clause-room : goal.enter-requires-clause-room
enter-requires-clause-room c =
    let run = c.args.run.now in
    let same = c.events-events.ensures.value in
    let inside : c.loop-event.event-index < length run.events = rw same at c.loop-event-test.true in
    let room = AreIn-room_at run.settings run.events c.loop-event.event-index c.loop-event.state inside (rw same at c.loop-event.invariant) in
    omega (arith, room, ap length same)

pub loop-event-preserved : goal.loop-event-preserved
loop-event-preserved c =
    let run = c.args.run.now in
    let same = c.events-events.ensures.value in
    rw same
    (AreIn-step run.settings run.events c.loop-event.event-index _ c.loop-event.state c.enter.new.self
    (rw same at c.loop-event-test.true) (rw same at c.loop-event.invariant) (rw same at c.in_ok-enter.ensures.ok))

pub returns-in_err-enter-clause-err : goal.returns-in_err-enter-clause-err
returns-in_err-enter-clause-err c =
    let run = c.args.run.now in
    let same = c.events-events.ensures.value in
    let p = err_from_is_err_and c.from_residual-in_err-enter.result c.from_residual-in_err-enter.ensures.1 in
    rw (p.1, p.2)
    (IsRunFault-step run c.loop-event.event-index _ c.loop-event.state c.in_err-enter.field-0.0
    (rw same at c.loop-event-test.true) (rw same at c.loop-event.invariant) (rw same at c.in_err-enter.ensures.err))

pub returns-clause-order : goal.returns-clause-order
returns-clause-order c =
    let run = c.args.run.now in
    let same = c.events-events.ensures.value in
    let state = c.loop-event.state in
    let all = AreIn-end run.settings run.events c.loop-event.event-index state (rw same at c.loop-event-test.false) (rw same at c.loop-event.invariant) in
    IfOk-weaker c.order.result _ _ (λ points judged. IsOrder-in run.settings run.events state points all judged) c.order.ensures.ok

pub returns-clause-legal : goal.returns-clause-legal
returns-clause-legal c =
    let run = c.args.run.now in
    let same = c.events-events.ensures.value in
    let state = c.loop-event.state in
    let all = AreIn-end run.settings run.events c.loop-event.event-index state (rw same at c.loop-event-test.false) (rw same at c.loop-event.invariant) in
    IfOk-weaker c.order.result _ _ (λ points judged. IsLegalRun-in run state points all judged) c.order.ensures.ok

pub returns-clause-err : goal.returns-clause-err
returns-clause-err c =
    let run = c.args.run.now in
    let same = c.events-events.ensures.value in
    let state = c.loop-event.state in
    let all = AreIn-end run.settings run.events c.loop-event.event-index state (rw same at c.loop-event-test.false) (rw same at c.loop-event.invariant) in
    IfErr-weaker c.order.result _ _ (λ told illegal. IsRunFault-illegal run state told all illegal) c.order.ensures.err

pub returns-in_err-enter-clause-never : goal.returns-in_err-enter-clause-never
returns-in_err-enter-clause-never c = λ legal.
    let run = c.args.run.now in
    let same = c.events-events.ensures.value in
    let p = err_from_is_err_and c.from_residual-in_err-enter.result c.from_residual-in_err-enter.ensures.1 in
    rw (p.1, p.2)
    (memory_alone run _ legal
    (IsRunFault-step run c.loop-event.event-index _ c.loop-event.state c.in_err-enter.field-0.0
    (rw same at c.loop-event-test.true) (rw same at c.loop-event.invariant) (rw same at c.in_err-enter.ensures.err)))

pub returns-clause-never : goal.returns-clause-never
returns-clause-never c = λ legal.
    let run = c.args.run.now in
    let same = c.events-events.ensures.value in
    let state = c.loop-event.state in
    let all = AreIn-end run.settings run.events c.loop-event.event-index state (rw same at c.loop-event-test.false) (rw same at c.loop-event.invariant) in
    IfErr-weaker c.order.result _ _ (λ told illegal. memory_alone run told legal (IsRunFault-illegal run state told all illegal)) c.order.ensures.err

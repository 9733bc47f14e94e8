use Rattle.std.proofs.Common.{◌≡◌, length, take}
use Rattle.tko_runs.specs.CheckStates.{AreJudged}
use Rattle.tko_runs.proofs.checking.state.judge.Given as goal

abbrev pub invariant-loop-call : goal.invariant-loop-call
invariant-loop-call l = record {
  judged : AreJudged (take l.call-index l.calls) l.order;
  count : length l.order ≡ l.call-index;
}

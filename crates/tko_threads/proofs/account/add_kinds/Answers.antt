use Rattle.std.proofs.Common.{add-one}
use Rattle.std.proofs.Math.Seq.{take-suc}
use Rattle.tko_model.proofs.RecordLemmas.{gains_pushed}
use Rattle.tko_threads.proofs.account.add_kinds.Goals as goal

pub loop-kind-preserved : goal.loop-kind-preserved
loop-kind-preserved c =
    gains_pushed c.loop-kind.invariant (c.add_kind-full.ensures.counted c.loop-kind.full)
    (rw add-one (take-suc c.args.kinds.now c.loop-kind.kind-index _ c.loop-kind-test.true))

use Rattle.std.proofs.Common.{arith}
use Rattle.tko_runs.proofs.PrintLemmas.{told_turn, numbers_left}
use Rattle.tko_runs.proofs.printing.append_lines.Goals as goal

pub loop-skip-preserved : goal.loop-skip-preserved
loop-skip-preserved c =
    let cut = c.split_at.ensures in (
      told_turn
          c.args.version _ _ _ c.loop-skip.number c.loop-skip.place _ c.loop-skip.rest.now c.split_at.result.0.now _
          c.loop-skip.out.items c.append_events.new.out.items _ _
          c.loop-skip-test.true
          (omega arith)
          (cc (cut.front, c.min.ensures, c.saturating_sub.ensures))
          (cc (cut.back, c.min.ensures, c.saturating_sub.ensures))
          c.in_ok-append_events.ensures.number
          c.in_ok-append_events.ensures.text
          c.in_ok-append_skipped.ensures
          c.loop-skip.invariant.0,
      numbers_left
          c.loop-skip.number _ c.min.result _ c.loop-skip.rest.now c.split_at.result.0.now _
          c.in_ok-append_events.ensures.number cut.front_len cut.back_len c.loop-skip.invariant.1,
    )

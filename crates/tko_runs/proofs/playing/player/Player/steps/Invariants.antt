use Rattle.std.proofs.Common.{◌≡◌, ◌-◌, replicate}
use Rattle.tko_runs.specs.Plays.{after_all_turns}
use Rattle.tko_steps.specs.Runs.{Step}
use Rattle.tko_runs.proofs.playing.player.Player.steps.Given as goal

-- the steps that are left make what all of them make from the start
abbrev pub invariant-loop-done : goal.invariant-loop-done
invariant-loop-done l =
    after_all_turns l.self (replicate (l.steps - l.done) (Step l.thread)) ≡ after_all_turns l.fn.self (replicate l.steps (Step l.thread))

use Rattle.std.proofs.Common.{◌≡◌}
use Rattle.tko_runs.specs.Plays.{after_all_turns, enrolments, opened_play}
use Rattle.tko_runs.proofs.playing.player.Player.open.Given as goal

abbrev pub invariant-loop-thread : goal.invariant-loop-thread
invariant-loop-thread l = l.player ≡ after_all_turns (opened_play l.fn.settings) (enrolments l.thread)

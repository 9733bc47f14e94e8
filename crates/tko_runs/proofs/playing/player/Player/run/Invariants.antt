use Rattle.std.proofs.Common.{◌≡◌, ◌-◌, replicate}
use Rattle.tko_runs.specs.declared.schedule.command.Command.TheVariants.{Run}
use Rattle.tko_runs.specs.Limits.{max_steps}
use Rattle.tko_runs.specs.Plays.{after_all_turns, after_command, steps_to_answer}
use Rattle.tko_steps.specs.Runs.{Step}
use Rattle.tko_runs.proofs.playing.player.Player.run.Given as goal

-- the steps that are left make what all of them make from the start
abbrev pub invariant-loop : goal.invariant-loop
invariant-loop l =
    after_all_turns
    l.self
    (replicate (steps_to_answer (max_steps - l.counter) l.self.core l.thread) (Step l.thread))
    ≡ after_command l.fn.self (Run l.thread)

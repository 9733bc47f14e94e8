use Rattle.std.proofs.Common.{◌≡◌, take}
use Rattle.tko_runs.specs.Plays.{after_commands, enrolled}
use Rattle.tko_runs.proofs.playing.all_followed.Given as goal

abbrev pub invariant-loop-command : goal.invariant-loop-command
invariant-loop-command l =
    l.player ≡ after_commands (enrolled l.fn.schedule.settings) (take l.command-index l.fn.schedule.commands)

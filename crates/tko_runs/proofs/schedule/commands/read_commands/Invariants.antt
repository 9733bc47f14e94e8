use Rattle.std.proofs.Common.{length}
use Rattle.tko_bytes.specs.Lines.{lines_of}
use Rattle.tko_runs.proofs.CommandLemmas.{HasRead}
use Rattle.tko_runs.proofs.schedule.commands.read_commands.Given as goal

abbrev pub invariant-loop-rest : goal.invariant-loop-rest
invariant-loop-rest l = HasRead (lines_of l.text) l.commands.items (lines_of l.rest)

abbrev pub decreases-loop-rest : goal.decreases-loop-rest
decreases-loop-rest l = length l.rest

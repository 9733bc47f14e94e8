use Rattle.std.proofs.Common.{◌≡◌, length}
use Rattle.tko_bytes.specs.Lines.{lines_of}
use Rattle.tko_cli.specs.OpenFiles.{limit_in}
use Rattle.tko_cli.proofs.open_files.limit_in.Given as goal

abbrev pub invariant-loop-rest : goal.invariant-loop-rest
invariant-loop-rest l = limit_in (lines_of l.text) ≡ limit_in (lines_of l.rest)

abbrev pub decreases-loop-rest : goal.decreases-loop-rest
decreases-loop-rest l = length l.rest

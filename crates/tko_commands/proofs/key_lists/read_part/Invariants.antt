use Rattle.std.proofs.Common.{[], ◌<◌, length}
use Rattle.tko_commands.specs.KeyLists.{loses}
use Rattle.tko_commands.proofs.key_lists.read_part.Given as goal

-- nothing was read so far
abbrev pub invariant-loop : goal.invariant-loop
invariant-loop g l = loses g.F.Read.remaining l.fn.file [] l.file × (0 < length l.buffer)

use Rattle.std.proofs.Common.{◌<◌, length}
use Rattle.tko_commands.specs.KeyLists.{HasTaken, loses}
use Rattle.tko_commands.proofs.key_lists.take_reader.Given as goal

-- the parts so far were counted
abbrev pub invariant-loop : goal.invariant-loop
invariant-loop g l =
    HasTaken (loses g.F.Read.remaining) l.fn.file l.file l.fn.counts l.counts × (0 < length l.buffer)

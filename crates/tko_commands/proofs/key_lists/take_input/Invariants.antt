use Rattle.std.proofs.Common.{◌≡◌, ◌<◌, length}
use Rattle.tko_commands.specs.KeyLists.{HasTaken}
use Rattle.tko_commands.proofs.key_lists.take_input.Given as goal

-- the pieces so far were counted
abbrev pub invariant-loop : goal.invariant-loop
invariant-loop g l =
    HasTaken g.I.Inlet.gives l.fn.input l.input l.fn.counts l.counts
    × (g.I.Inlet.failures l.input ≡ g.I.Inlet.failures l.fn.input) × (0 < length l.buffer)

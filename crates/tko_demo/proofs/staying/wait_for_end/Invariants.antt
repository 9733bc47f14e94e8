use Rattle.std.proofs.Common.{◌≡◌, ◌<◌, vec_len}
use Rattle.tko_demo.proofs.staying.wait_for_end.Given as goal

-- no read has failed yet, and there is room for the next
abbrev pub invariant-loop : goal.invariant-loop
invariant-loop g l =
    (g.I.Inlet.failures l.input ≡ g.I.Inlet.failures l.fn.input) × (0 < vec_len l.buffer)

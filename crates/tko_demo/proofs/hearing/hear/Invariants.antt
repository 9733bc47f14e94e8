use Rattle.std.proofs.Common.{◌≡◌, ◌<◌, vec_len}
use Rattle.tko_demo.proofs.hearing.hear.Given as goal

-- what was heard so far came, and nothing else happened at the inlet
abbrev pub invariant-loop : goal.invariant-loop
invariant-loop g l =
    g.I.Inlet.gives l.fn.inlet l.bytes.items l.inlet
    × (g.I.Inlet.failures l.inlet ≡ g.I.Inlet.failures l.fn.inlet)
    × (g.I.Inlet.idles l.inlet ≡ g.I.Inlet.idles l.fn.inlet) × (0 < vec_len l.buffer)

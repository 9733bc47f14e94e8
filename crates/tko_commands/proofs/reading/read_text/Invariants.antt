use Rattle.std.proofs.Common.{◌≡◌, ◌<◌, ◌≤◌, ◌-◌, length, vec_len}
use Rattle.tko_commands.proofs.reading.read_text.Given as goal

-- what was read came
abbrev pub invariant-loop-text : goal.invariant-loop-text
invariant-loop-text g l =
    g.I.Inlet.gives l.fn.input l.text.items l.input × (length l.text.items ≤ l.most)
    × (g.I.Inlet.failures l.input ≡ g.I.Inlet.failures l.fn.input) × (0 < vec_len l.buffer)

abbrev pub decreases-loop-text : goal.decreases-loop-text
decreases-loop-text g l = l.most - length l.text.items

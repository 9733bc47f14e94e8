use Rattle.std.proofs.Common.{◌≡◌, drop}
use Rattle.tko_bytes.specs.Words.{unspaced}
use Rattle.tko_bytes.proofs.words.without_spaces.Given as goal

-- only spaces have been passed over
abbrev pub invariant-loop-i : goal.invariant-loop-i
invariant-loop-i l = unspaced (drop l.i l.line) ≡ unspaced l.line

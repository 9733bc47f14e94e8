use Rattle.std.proofs.Common.{◌≡◌, ◌^◌, ◌<◌, take}
use Rattle.std.specs.Str.Parse.{digits_value}
use Rattle.tko_bytes.proofs.NumberLemmas.{AreDigits}
use Rattle.tko_bytes.proofs.numbers.number.Given as goal

abbrev pub invariant-loop-byte : goal.invariant-loop-byte
invariant-loop-byte l = AreDigits (take l.byte-index l.word)
    × (l.value ≡ digits_value 10 (take l.byte-index l.word)) × (l.value < 2 ^ 64)

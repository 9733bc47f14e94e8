-- Numbers: as words of decimal digits, any number of leading zeros, and no sign; and those that
-- stay at their greatest.
use Rattle.std.specs.Prelude.{ℕ, ◌-◌, ◌^◌, min, Bool, ◌&&◌, nat_lt, nat_le, if◌then◌else◌, List, length, Option, Some, None}
use Rattle.std.specs.Char.{is_ascii_digit}
use Rattle.std.specs.List.{list_all}
use Rattle.std.specs.Str.Parse.{digits_value}

-- one decimal digit or more, and nothing else
abbrev pub is_decimal : List ℕ → Bool
is_decimal word = nat_lt 0 (length word) && list_all is_ascii_digit word

-- the number that a word writes, where it is at most `most`
unfoldable pub number_of : ℕ → List ℕ → Option ℕ
number_of most word =
    if is_decimal word && nat_le (digits_value 10 word) most
    then Some (digits_value 10 word)
    else None

-- a number or moment in 64 bits that stays at 2^64 - 1
abbrev pub capped : ℕ → ℕ
capped n = min n (2 ^ 64 - 1)

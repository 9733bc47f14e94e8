-- An expiry as a word: a number that a minus may precede.
use Rattle.std.specs.Prelude.{ℕ, List, [], ◌∷◌, Option, None, option_map, ℤ, pos, neg_ℤ, ◌==◌, if◌then◌else◌}
use Rattle.tko_bytes.specs.Numbers.{number_of}
use Rattle.tko_text.specs.Limits.{expiry_limit, negative_expiry_limit}

abbrev pub minus : ℕ
minus = 45

-- an expiry, from -2^63 to 2^63 - 1
abbrev pub expiry_of : List ℕ → Option ℤ
expiry_of [] = None
expiry_of (b ∷ bytes) =
    if b == minus
    then option_map (λ n. neg_ℤ (pos n)) (number_of negative_expiry_limit bytes)
    else option_map pos (number_of expiry_limit (b ∷ bytes))

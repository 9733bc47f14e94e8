-- Numbers of servers: the addresses of the children are walked in order, and a new address gets the
-- next number.
use Rattle.std.specs.Prelude.{ℕ, is_some, unwrap_or, if◌then◌else◌, List, [], ◌∷◌, ◌++◌, length}
use Rattle.std.specs.List.{fold, position}
use Rattle.std.specs.Str.{bytes_eq}

-- the addresses with one more, if it is new
abbrev pub with_address : List (List ℕ) → List ℕ → List (List ℕ)
with_address addresses text =
    if is_some (position (bytes_eq text) addresses) then addresses else addresses ++ text ∷ []

-- the addresses in the order of their numbers
abbrev pub numbered : List (List ℕ) → List (List ℕ)
numbered texts = fold with_address [] texts

-- the number of an address: its place, and how many there are where it is none of them
abbrev pub number_in : List (List ℕ) → List ℕ → ℕ
number_in addresses text = unwrap_or (position (bytes_eq text) addresses) (length addresses)

-- Items that belong to one of several numbers.
use Rattle.std.specs.Prelude.{◌==◌, ℕ, Bool, true, false, List, [], ◌∷◌}

-- an item, and the number that it belongs to
pub record Tagged (A : Type 0) : Type 0 where
  pub number : ℕ
  pub item : A

abbrev pub tagged : {A : Type 0} → ℕ → A → Tagged A
tagged number item = record { number = number; item = item }

-- an item before others, if it belongs to the number
abbrev pub own_or : {A : Type 0} → Bool → A → List A → List A
own_or true item items = item ∷ items
own_or false item items = items

-- the items of one number, in order
unfoldable pub own : {A : Type 0} → ℕ → List (Tagged A) → List A
own number [] = []
own number (it ∷ items) = own_or (it.number == number) it.item (own number items)

-- Numbers of clients, in order.
use Rattle.std.specs.Prelude.{◌≡◌, ◌<◌, ◌≤◌, ◌⊎◌, ℕ, Bool, true, false, List, [], ◌∷◌, ◌++◌, length}
use Rattle.std.specs.Prelude.{slice_get, unwrap_or}

-- this number is among those
abbrev pub IsIn : ℕ → List ℕ → Type 0
IsIn number [] = ⊥
IsIn number (it ∷ others) = (it ≡ number) ⊎ IsIn number others

-- a number was put behind the others, or was among them
abbrev pub IsAmong : ℕ → List ℕ → List ℕ → Type 0
IsAmong number old new = (new ≡ old ++ number ∷ []) ⊎ (IsIn number old × (new ≡ old))

-- whether the flag of a number is set; one that has none counts as not set
abbrev pub is_flagged : List Bool → ℕ → Bool
is_flagged flags number = unwrap_or (slice_get flags number) false

-- a number whose flag is set is among these
abbrev pub AreFlagged : List Bool → List ℕ → Type 0
AreFlagged flags numbers = (number : ℕ) → is_flagged flags number ≡ true → IsIn number numbers

-- of the numbers that waited the first were taken in their order, so many at most, and fewer only
-- where all were; those that followed come first now, and then those that were put off
pub record IsTurnTaken (most : ℕ) (old new : List ℕ) : Type 0 where
  pub first : List ℕ
  pub rest : List ℕ
  pub more : List ℕ
  pub was : old ≡ first ++ rest
  pub is : new ≡ rest ++ more
  pub few : length first ≤ most
  pub all : length first < most → rest ≡ []

-- how many of those that were put off are served in one turn
abbrev pub put_off_served : ℕ
put_off_served = 4

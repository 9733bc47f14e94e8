-- How often each number was counted.
use Rattle.std.specs.Prelude.{◌≡◌, ℕ, ◌+◌, Bool, false, ◌==◌, ◌&&◌, cond, List, [], Option, Some, None, get_or, slice_get, slice_index}

-- 1 where a test holds, and 0 where it does not
abbrev pub one_where : Bool → ℕ
one_where test = cond test 1 0

-- one more of this number, and as many of each other one
abbrev pub IsCountedAgain : ℕ → List ℕ → List ℕ → Type 0
IsCountedAgain number old new =
    (other : ℕ) → slice_index new other ≡ slice_index old other + one_where (other == number)

-- whether the number at a place is this one
abbrev pub is_number : ℕ → Option ℕ → Bool
is_number number None = false
is_number number (Some other) = number == other

-- how often a row counted a number
abbrev pub row_count : List (List ℕ) → ℕ → ℕ → ℕ
row_count rows place number = slice_index (get_or rows place []) number

-- the row at this place counted this number once more
abbrev pub IsCountedAgainAt : ℕ → ℕ → List (List ℕ) → List (List ℕ) → Type 0
IsCountedAgainAt place number old new = (row other : ℕ)
    → row_count new row other
    ≡ row_count old row other + one_where (row == place && other == number)

-- each row counted the number at its place once more
abbrev pub AreCountedOnce : List ℕ → List (List ℕ) → List (List ℕ) → Type 0
AreCountedOnce numbers old new = (row other : ℕ)
    → row_count new row other
    ≡ row_count old row other + one_where (is_number other (slice_get numbers row))

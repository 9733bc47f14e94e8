-- What follows the place where data may end.
use Rattle.std.specs.Prelude.{◌≡◌, ◌≢◌, ℕ, ◌+◌, ◌<◌, ◌≤◌, ◌⊎◌, List, length, slice_index}
use Rattle.tko_bytes.specs.Lines.{carriage_return, line_feed}
use Rattle.tko_text.specs.declared.data.DataEnd.{DataEnd}
use Rattle.tko_text.specs.declared.data.DataEnd.TheVariants.{Open, Whole, WrongLine, Wrong}

-- not all of the data and their CR LF have come
abbrev pub IsOpenData : List ℕ → ℕ → Type 0
IsOpenData bytes size =
    (length bytes ≤ size)
    ⊎ ((length bytes ≡ size + 1) × (slice_index bytes size ≡ carriage_return))

-- the byte that follows the data is no CR and no LF, or the CR is followed by no LF
abbrev pub IsWrongAt : List ℕ → ℕ → ℕ → Type 0
IsWrongAt bytes size count =
    ((count ≡ size + 1) × (size < length bytes) × (slice_index bytes size ≢ carriage_return)
    × (slice_index bytes size ≢ line_feed))
    ⊎ ((count ≡ size + 2) × (size + 1 < length bytes)
    × (slice_index bytes size ≡ carriage_return) × (slice_index bytes (size + 1) ≢ line_feed))

abbrev pub EndsData : List ℕ → ℕ → DataEnd → Type 0
EndsData bytes size Open = IsOpenData bytes size
EndsData bytes size Whole =
    (size + 1 < length bytes) × (slice_index bytes size ≡ carriage_return)
    × (slice_index bytes (size + 1) ≡ line_feed)
EndsData bytes size (WrongLine count) =
    (count ≡ size + 1) × (size < length bytes) × (slice_index bytes size ≡ line_feed)
EndsData bytes size (Wrong count) = IsWrongAt bytes size count

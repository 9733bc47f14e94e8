-- Lines: where one ends, and how long it may be.
use Rattle.std.specs.Prelude.{◌≡◌, ℕ, ◌+◌, ◌<◌, ◌≤◌, List, length, take, slice_index}
use Rattle.tko_bytes.specs.Lines.{HasNoEnd, line_feed}
use Rattle.tko_text.specs.Limits.{line_limit}

-- bytes that a line may have before its LF
pub record IsLine (before : List ℕ) : Type 0 where
  pub unended : HasNoEnd before
  pub within : length before ≤ line_limit

-- these bytes begin with a line of `len` bytes before its LF
pub record IsEndedAt (bytes : List ℕ) (len : ℕ) : Type 0 where
  pub line : IsLine (take len bytes)
  pub fits : len < length bytes
  pub ended : slice_index bytes len ≡ line_feed

-- one byte more than a line may have
pub record IsTooLong (bytes : List ℕ) : Type 0 where
  pub unended : HasNoEnd bytes
  pub beyond : length bytes ≡ line_limit + 1

-- these bytes begin with a line that is too long
abbrev pub IsBeyond : List ℕ → Type 0
IsBeyond bytes = IsTooLong (take (line_limit + 1) bytes)

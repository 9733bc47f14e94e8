-- Lines of responses: how they are cut from the bytes, and what they hold.
use Rattle.std.specs.Prelude.{◌≡◌, ◌≢◌, ℕ, ◌<◌, ◌≤◌, List, [], ◌∷◌, ◌++◌, length, slice_index, Some}
use Rattle.tko_bytes.specs.Lines.{HasNoEnd, content, line_feed}
use Rattle.tko_bytes.specs.Numbers.{number_of}
use Rattle.tko_bytes.specs.Words.{after_word, front_word, unspaced}
use Rattle.tko_text.specs.Limits.{data_limit, line_limit}

-- no LF is among these bytes
abbrev pub IsLineText : List ℕ → Type 0
IsLineText bytes = HasNoEnd bytes

-- few enough to be stored under a key
abbrev pub IsData : List ℕ → Type 0
IsData bytes = length bytes ≤ data_limit

-- the first word of a line, and the bytes that follow it
pub record Split : Type 0 where
  pub word : List ℕ
  pub rest : List ℕ

abbrev pub split_of : List ℕ → Split
split_of line = record { word = front_word (unspaced line); rest = after_word (unspaced line) }

-- a line before its LF, or the part of one that has come: no LF, and no more bytes than a line may
-- have, a CR counted
pub record IsOpenLine (bytes : List ℕ) : Type 0 where
  pub text : IsLineText bytes
  pub few : length bytes ≤ line_limit

-- the bytes are one whole line, which holds a first word and what follows it
pub record IsSplitLine (bytes : List ℕ) (line : Split) : Type 0 where
  pub before : List ℕ
  pub whole : bytes ≡ before ++ line_feed ∷ []
  pub open_line : IsOpenLine before
  pub holds : line ≡ split_of (content before)

-- the word is a decimal number up to a limit
abbrev pub IsNumber : ℕ → List ℕ → ℕ → Type 0
IsNumber limit word n = number_of limit word ≡ Some n

-- the bytes are a line that holds this, and the rest
abbrev pub SplitsLine : List ℕ → Split → List ℕ → Type 0
SplitsLine bytes line rest = (first : List ℕ) × IsSplitLine first line × (bytes ≡ first ++ rest)

-- no LF is where a line must have one
pub record IsOverlong (bytes : List ℕ) : Type 0 where
  pub text : (k : ℕ) → k ≤ line_limit → slice_index bytes k ≢ line_feed
  pub many : line_limit < length bytes

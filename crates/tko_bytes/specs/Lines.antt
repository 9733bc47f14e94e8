-- Lines: where they end, and what they hold.
use Rattle.std.specs.Prelude.{◌≡◌, ℕ, ◌≢◌, List, [], ◌∷◌, ◌++◌, All}
use Rattle.std.specs.Str.Lines.{lines, strip_carriage_return}

abbrev pub line_feed : ℕ
line_feed = 10

abbrev pub carriage_return : ℕ
carriage_return = 13

-- how a line is written to its end
abbrev pub crlf : List ℕ
crlf = carriage_return ∷ line_feed ∷ []

-- no LF is among these bytes
abbrev pub HasNoEnd : List ℕ → Type 0
HasNoEnd bytes = All (λ b. b ≢ line_feed) bytes

-- these bytes stand before the first LF of a text, and the rest follows it
pub record SplitsAtEnd (text line rest : List ℕ) : Type 0 where
  pub unended : HasNoEnd line
  pub whole : text ≡ line ++ line_feed ∷ rest

-- what a line holds: the bytes before its LF, without one CR right before it
abbrev pub content : List ℕ → List ℕ
content line = strip_carriage_return line

-- The lines of a text. The last one may end with the text; then it keeps a CR at its end. No line
-- follows the last LF of the text where the text ends there.
unfoldable pub lines_of : List ℕ → List (List ℕ)
lines_of text = lines text

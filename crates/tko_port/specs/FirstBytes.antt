-- The first byte of a client's connection, by which its protocol is told.
use Rattle.std.specs.Prelude.{◌≡◌, ◌==◌, ◌||◌, ◌++◌, if◌then◌else◌, ℕ, Bool, true, false, List, [], ◌∷◌}
use Rattle.tko_port.specs.declared.first_byte.FirstByte.{FirstByte}
use Rattle.tko_port.specs.declared.first_byte.FirstByte.TheVariants.{Any, Awaited, Binary, Text}

-- with such a byte a request or a response of the binary protocol begins
abbrev pub is_magic : ℕ → Bool
is_magic byte = (byte == 0x80) || (byte == 0x81)

-- what is known of the first byte once this is what came
abbrev pub first_of : List ℕ → FirstByte
first_of [] = Awaited
first_of (byte ∷ bytes) = if is_magic byte then Binary else Text

-- what is known of it after one more piece
abbrev pub first_after : FirstByte → List ℕ → FirstByte
first_after Awaited piece = first_of piece
first_after Any piece = Any
first_after Text piece = Text
first_after Binary piece = Binary

abbrev pub is_binary : FirstByte → Bool
is_binary Any = false
is_binary Awaited = false
is_binary Text = false
is_binary Binary = true

-- what was given of a connection whose first byte is looked at: nothing before that byte came; what
-- begins with another byte than those of the binary protocol; or nothing at all
abbrev pub IsTextGiven : FirstByte → List ℕ → Type 0
IsTextGiven Any given = Unit {0}
IsTextGiven Awaited given = given ≡ []
IsTextGiven Text given = first_of given ≡ Text
IsTextGiven Binary given = given ≡ []

-- a piece is given on, unless its connection speaks the binary protocol
abbrev pub given_after : FirstByte → List ℕ → List ℕ → List ℕ
given_after first given piece = if is_binary first then given else given ++ piece

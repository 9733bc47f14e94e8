-- Text between the tags of HTML, and in its attributes.
use Rattle.std.specs.Prelude.{ℕ, ◌==◌, if◌then◌else◌, List, [], ◌∷◌, codes, flat_map}

-- the bytes that HTML gives a meaning: `&`, `<`, `>`, `"` and `'`
abbrev pub ampersand : ℕ
ampersand = 38

abbrev pub less : ℕ
less = 60

abbrev pub greater : ℕ
greater = 62

abbrev pub double_quote : ℕ
double_quote = 34

abbrev pub apostrophe : ℕ
apostrophe = 39

-- what stands for a byte: an entity for one of these five, and else the byte itself
abbrev pub entity_of : ℕ → List ℕ
entity_of byte =
    if byte == ampersand then codes "&amp;"
    else if byte == less then codes "&lt;"
    else if byte == greater then codes "&gt;"
    else if byte == double_quote then codes "&quot;"
    else if byte == apostrophe then codes "&#39;"
    else byte ∷ []

-- a text that a browser shows as it is
abbrev pub escaped : List ℕ → List ℕ
escaped text = flat_map entity_of text

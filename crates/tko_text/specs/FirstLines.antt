-- The first line of a written value.
use Rattle.std.specs.Prelude.{ℕ, List, ◌++◌, length, codes, decimal}
use Rattle.tko_text.specs.declared.response.body.Value.{Value}
use Rattle.tko_text.specs.Responses.{cas_text}

-- the written form of a value up to its data
abbrev pub first_line : Value → List ℕ
first_line found =
    codes "VALUE " ++ found.key ++ codes " " ++ decimal found.flags ++ codes " "
    ++ decimal (length found.data) ++ cas_text found.unique ++ codes "\r\n"

-- Texts of a configuration as lines: names quoted as in JSON.
use Rattle.std.specs.Prelude.{ℕ, List, [], ◌∷◌, ◌++◌, codes, decimal}
use Rattle.json.specs.Print.{quoted}

-- each number after a space
abbrev pub numbers_text : List ℕ → List ℕ
numbers_text [] = []
numbers_text (number ∷ others) = codes " " ++ decimal number ++ numbers_text others

-- a word, a quoted name, numbers and the end of the line
abbrev pub named_line : List ℕ → List ℕ → List ℕ → List ℕ
named_line word name numbers = word ++ quoted name ++ numbers_text numbers ++ codes "\n"

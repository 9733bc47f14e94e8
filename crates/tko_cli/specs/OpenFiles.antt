-- How many files the process may have open, as the system tells it in a text of lines.
use Rattle.std.specs.Prelude.{ℕ, List, [], ◌∷◌, Option, Some, None, bytes_eq, codes, drop, if◌then◌else◌, take}
use Rattle.tko_bytes.specs.Numbers.{number_of}
use Rattle.tko_bytes.specs.Words.{words}

-- the words before the limit
abbrev pub limit_words : List ℕ
limit_words = codes "Max open files "

-- how many bytes these have
abbrev pub limit_place : ℕ
limit_place = 15

-- the greatest limit that is a number
abbrev pub most_files : ℕ
most_files = 18446744073709551615

-- what a line tells of the limit: what follows those words, where it begins with them
abbrev pub told_in : List ℕ → Option (List ℕ)
told_in line =
    if bytes_eq (take limit_place line) limit_words then Some (drop limit_place line) else None

-- the number that the first of these words writes
abbrev pub limit_told : List (List ℕ) → Option ℕ
limit_told [] = None
limit_told (word ∷ others) = number_of most_files word

-- the limit that is told, or else the one of the lines after it
abbrev pub limit_or : Option (List ℕ) → Option ℕ → Option ℕ
limit_or (Some told) later = limit_told (words told)
limit_or None later = later

-- the limit that the first of these lines tells that tells any
unfoldable pub limit_in : List (List ℕ) → Option ℕ
limit_in [] = None
limit_in (line ∷ lines) = limit_or (told_in line) (limit_in lines)

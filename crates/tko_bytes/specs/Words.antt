-- Words: runs of bytes other than the space. Any spaces before, between and after them are skipped.
use Rattle.std.specs.Prelude.{◌≡◌, ℕ, Bool, true, false, List, [], ◌∷◌, ◌==◌, if◌then◌else◌}

abbrev pub space : ℕ
space = 32

-- without the spaces in front
abbrev pub unspaced : List ℕ → List ℕ
unspaced [] = []
unspaced (b ∷ bytes) = if b == space then unspaced bytes else b ∷ bytes

-- up to the first space
abbrev pub front_word : List ℕ → List ℕ
front_word [] = []
front_word (b ∷ bytes) = if b == space then [] else b ∷ front_word bytes

-- from the first space on
abbrev pub after_word : List ℕ → List ℕ
after_word [] = []
after_word (b ∷ bytes) = if b == space then b ∷ bytes else after_word bytes

-- the words that begin in the bytes, where the byte before them is part of a word or is not
abbrev pub words_from : Bool → List ℕ → List (List ℕ)
words_from inside [] = []
words_from inside (b ∷ bytes) =
    if b == space then words_from false bytes
    else (if inside then words_from true bytes else front_word (b ∷ bytes) ∷ words_from true bytes)

-- the words of what a line holds
abbrev pub words : List ℕ → List (List ℕ)
words line = words_from false line

-- the first word of a line, and what follows it
pub record SplitsWord (line word behind : List ℕ) : Type 0 where
  pub word_is : word ≡ front_word (unspaced line)
  pub behind_is : behind ≡ after_word (unspaced line)
  pub words_are : words line ≡ word ∷ words behind

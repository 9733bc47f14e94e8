use Rattle.std.proofs.Common.{◌≡◌, ◌∷◌, ◌++◌, length, true}
use Rattle.std.specs.List.{list_all}
use Rattle.tko_text.specs.Keys.{is_key}
use Rattle.tko_text.proofs.line.read_others.Given as goal

-- the keys so far, and the words that are left
abbrev pub invariant-loop-word : goal.invariant-loop-word
invariant-loop-word l = record {
  parts : l.keys.items ++ l.words ≡ l.fn.first ∷ l.fn.words;
  good : list_all is_key l.keys.items ≡ true;
}

abbrev pub decreases-loop-word : goal.decreases-loop-word
decreases-loop-word l = length l.words

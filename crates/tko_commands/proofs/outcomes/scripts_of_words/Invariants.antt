use Rattle.std.proofs.Common.{◌≡◌, ◌+◌, List, ◌++◌, drop, not}
use Rattle.std.specs.List.{position_from}
use Rattle.tko_links.specs.declared.scripted.Script.{Script}
use Rattle.tko_commands.specs.Outcomes.{AllAsk, first_bad, is_outcome, texts_pointed_to}
use Rattle.tko_commands.proofs.outcomes.scripts_of_words.Given as goal

-- the scripts so far and those of the words that are left are those of all words
abbrev pub invariant-loop-place : goal.invariant-loop-place
invariant-loop-place l = record {
  asked : (more : List Script) → AllAsk (texts_pointed_to (drop l.place l.words)) more → AllAsk (texts_pointed_to l.words) (l.scripts.items ++ more);
  bad : first_bad (texts_pointed_to l.words) ≡ position_from (λ word. not (is_outcome word)) (l.place + 1) (texts_pointed_to (drop l.place l.words));
}

use Rattle.std.proofs.Common.{◌≡◌, ◌≤◌, [], ◌++◌, drop, length, arith}
use Rattle.std.proofs.lemmas.List.{append-nil, drop_all}
use Rattle.tko_commands.specs.Outcomes.{AllAsk, texts_pointed_to}
use Rattle.tko_commands.proofs.outcomes.scripts_of_words.Goals as goal

pub returns-clause-ok : goal.returns-clause-ok
returns-clause-ok c =
    let words = c.args.words.now in
    let place = c.loop-place.place in
    let ended : length words ≤ place = omega (arith, c.loop-place-test.false) in
    let none : drop place words ≡ [] = drop_all place words ended in
    let left : AllAsk (texts_pointed_to (drop place words)) [] = rw none tt in
    let whole : AllAsk (texts_pointed_to words) (c.loop-place.scripts.items ++ []) = c.loop-place.invariant.asked [] left in
    rw (append-nil c.loop-place.scripts.items) at whole

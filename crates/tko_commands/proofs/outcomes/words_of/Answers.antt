use Rattle.std.proofs.Common.{rules, lit<, map, ◌≡◌, IfOk, sym, eqb, length}
use Rattle.std.proofs.lemmas.Iterator.Consumers.{map_from_collect}
use Rattle.std.proofs.lemmas.Iterator.Splits.{YieldsList-from_str_split}
use Rattle.std.specs.List.{slice_split}
use Rattle.tko_commands.proofs.outcomes.words_of.Goals as goal

pub returns : goal.returns
returns c =
    let parts : IfOk c.collect.result (λ v. map (λ x. x.now) v.items ≡ slice_split (λ b. eqb b 44) c.args.list.now) =
    map_from_collect _ c.collect.ensures.ran
    (YieldsList-from_str_split 44 c.args.list.now (lit< tt) c.split.ensures.text c.split.ensures.has_more c.split.ensures.pattern) in
    let whole : eqb (length c.args.list.now) 0 ≡ _ = sym c.is_empty.ensures in
    search rules

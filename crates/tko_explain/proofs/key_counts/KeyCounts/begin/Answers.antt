use Rattle.std.proofs.Common.{refl}
use Rattle.tko_explain.proofs.BegunLemmas.{counted_more}
use Rattle.tko_explain.proofs.key_counts.KeyCounts.begin.Goals as goal

pub returns : goal.returns
returns c = λ none json list against is.
    counted_more json against list c.args.bytes.now c.args.self.now _ none is refl refl c.in_ok-keep.ensures

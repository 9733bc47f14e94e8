use Rattle.std.proofs.Common.{refl}
use Rattle.tko_explain.proofs.BegunLemmas.{counted_line}
use Rattle.tko_explain.proofs.key_counts.KeyCounts.end_line.Goals as goal

pub returns : goal.returns
returns c = λ none json list against is.
    counted_line json against _ c.begin.new.self
    (record { root = c.begin.new.self.root; tally = c.add.new.self; begun = c.clear.new.self })
    (c.in_ok-begin.ensures none json list against is) refl c.in_ok-add.ensures.kept
    c.in_ok-add.ensures.same (rw (c.content.ensures, c.deref.ensures.value) at c.in_ok-add.ensures.tally)
    c.clear.ensures.items

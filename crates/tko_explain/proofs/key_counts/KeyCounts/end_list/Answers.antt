use Rattle.std.proofs.Common.{rules, refl}
use Rattle.tko_explain.proofs.BegunLemmas.{counted_ended, counted_last}
use Rattle.tko_explain.proofs.key_counts.KeyCounts.end_list.Goals as goal

pub returns-then-is_empty : goal.returns-then-is_empty
returns-then-is_empty c = λ json list against is. counted_ended json against list c.args.self.now is (search rules)

pub returns : goal.returns
returns c = λ json list against is.
    counted_last json against list c.args.self.now
    (record { root = c.args.self.now.root; tally = c.add.new.self; begun = c.args.self.now.begun })
    is (search rules) refl c.in_ok-add.ensures.kept
    c.in_ok-add.ensures.same (rw c.deref.ensures.value at c.in_ok-add.ensures.tally)

use Rattle.std.proofs.Common.{◌≡◌, rules}
use Rattle.tko_tracker.specs.Closing.{count_of_number}
use Rattle.tko_tracker.proofs.RetireLemmas.{one-more}
use Rattle.tko_tracker.proofs.closing.holds_each_once.Goals as goal

pub loop-number-preserved : goal.loop-number-preserved
loop-number-preserved c =
    let one : count_of_number c.loop-number.number c.args.passes.now ≡ 1 = search rules in
    one-more (λ other. count_of_number other c.args.passes.now ≡ 1) c.loop-number.number c.loop-number.invariant one

use Rattle.std.proofs.Common.{◌≤◌, length, rules}
use Rattle.tko_rounds.proofs.ProbeLemmas.{capped_all}
use Rattle.tko_rounds.proofs.rounds.sum_of.Goals as goal

pub returns : goal.returns
returns c =
    let it = c.loop-count.invariant in
    let ended : length c.args.counts.now ≤ c.loop-count.count-index = search rules in
    capped_all c.loop-count.sum c.loop-count.count-index c.args.counts.now it.fits ended it.sum

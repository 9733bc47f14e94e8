use Rattle.std.proofs.Common.{◌≡◌, ◌+◌, drop}
use Rattle.tko_model.specs.Numbers.{number_of_kind}
use Rattle.tko_desk.specs.Ledger.{sum_of}
use Rattle.tko_desk.proofs.gathering.is_sum.Given as goal

abbrev pub invariant-loop-share : goal.invariant-loop-share
invariant-loop-share l =
    number_of_kind l.kind l.totals + sum_of l.kind (drop l.share-index l.shares)
    ≡ l.left + sum_of l.kind l.shares

use Rattle.std.proofs.Common.{rules, ◌≡◌}
use Rattle.std.specs.List.{count_by}
use Rattle.tko_desk.specs.Ledger.{HasEachPlace, is_at}
use Rattle.tko_desk.proofs.PlaceLemmas.{all_below_next}
use Rattle.tko_desk.proofs.gathering.has_each_place.Goals as goal

-- src/gathering.rt:56:5
pub loop-place-preserved : goal.loop-place-preserved
unfolding HasEachPlace
loop-place-preserved c =
    all_below_next (λ place. count_by (is_at place) c.args.shares.now ≡ 1) c.loop-place.place
    c.loop-place.invariant (search rules)

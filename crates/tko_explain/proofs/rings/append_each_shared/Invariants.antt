use Rattle.std.proofs.Common.{◌≡◌, ◌++◌, drop, map}
use Rattle.tko_explain.specs.Placing.{shared_among}
use Rattle.tko_explain.proofs.rings.append_each_shared.Given as goal

-- the lines so far and those of the points that are left
abbrev pub invariant-loop-index : goal.invariant-loop-index
invariant-loop-index l =
    l.out.items ++ shared_among l.words (map (λ address. address.now) l.addresses) (drop l.index l.points)
    ≡ l.initial.out.items ++ shared_among l.words (map (λ address. address.now) l.addresses) l.points

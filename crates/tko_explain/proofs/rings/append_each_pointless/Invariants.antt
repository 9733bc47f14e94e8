use Rattle.std.proofs.Common.{◌≡◌, ◌++◌, drop, map}
use Rattle.tko_explain.specs.Placing.{pointless_from}
use Rattle.tko_explain.proofs.rings.append_each_pointless.Given as goal

-- the lines so far and those of the servers that are left
abbrev pub invariant-loop-place : goal.invariant-loop-place
invariant-loop-place l =
    l.out.items ++ pointless_from l.words l.points l.place (map (λ address. address.now) (drop l.place l.addresses))
    ≡ l.initial.out.items ++ pointless_from l.words l.points 0 (map (λ address. address.now) l.addresses)

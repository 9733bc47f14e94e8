use Rattle.std.proofs.Common.{◌≡◌, ◌++◌, drop, map}
use Rattle.tko_explain.specs.Moves.{place_named}
use Rattle.tko_explain.proofs.reading.places_of.Given as goal

-- the places so far and those of the names that are left
abbrev pub invariant-loop-name : goal.invariant-loop-name
invariant-loop-name l =
    l.places.items
    ++ map (place_named (map (λ name. name.now) l.others)) (map (λ name. name.now) (drop l.name-index l.names))
    ≡ map (place_named (map (λ name. name.now) l.others)) (map (λ name. name.now) l.names)

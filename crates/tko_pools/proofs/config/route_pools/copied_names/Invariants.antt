use Rattle.std.proofs.Common.{◌≡◌, ◌++◌, drop, map, string_bytes}
use Rattle.tko_pools.proofs.config.route_pools.copied_names.Given as goal

-- the copies so far, and then the names that are left, are all names
abbrev pub invariant-loop-name : goal.invariant-loop-name
invariant-loop-name l =
    map string_bytes l.copies.items ++ map (λ name. name.now) (drop l.name-index l.names)
    ≡ map (λ name. name.now) l.names

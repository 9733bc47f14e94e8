use Rattle.std.proofs.Common.{◌≡◌, drop, map}
use Rattle.tko_pools.specs.RingServers.{is_in_names}
use Rattle.tko_explain.proofs.warnings.is_in_names.Given as goal

-- it is among those that are left where it is among all
abbrev pub invariant-loop-other : goal.invariant-loop-other
invariant-loop-other l =
    is_in_names (map (λ name. name.now) (drop l.other-index l.names)) l.name ≡ is_in_names (map (λ name. name.now) l.names) l.name

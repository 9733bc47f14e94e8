use Rattle.std.proofs.Common.{◌≡◌, ◌++◌, drop, flat_map}
use Rattle.tko_metrics.specs.Health.{member_line}
use Rattle.tko_metrics.proofs.health.add_members.Given as goal

abbrev pub invariant-loop-number : goal.invariant-loop-number
invariant-loop-number l =
    l.out.items ++ flat_map (member_line l.servers) (drop l.number-index l.numbers)
    ≡ l.initial.out.items ++ flat_map (member_line l.servers) l.numbers

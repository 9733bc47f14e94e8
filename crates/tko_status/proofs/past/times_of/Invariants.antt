use Rattle.std.proofs.Common.{◌≡◌, map, take}
use Rattle.tko_status.specs.Past.{bucket_counts}
use Rattle.tko_status.proofs.past.times_of.Given as goal

abbrev pub invariant-loop-server : goal.invariant-loop-server
invariant-loop-server l =
    map (λ each. each.items) l.times.items
    ≡ map (λ server. bucket_counts server.times.buckets.items) (take l.server-index l.servers)

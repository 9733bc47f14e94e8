use Rattle.std.proofs.Common.{◌≡◌, map, string_bytes, take}
use Rattle.tko_metrics.proofs.timed.TimedServer.all.Given as goal

abbrev pub invariant-loop-place : goal.invariant-loop-place
invariant-loop-place l =
    map (λ server. server.address.now) l.servers.items
    ≡ map string_bytes (take l.place l.addresses)

use Rattle.std.proofs.Common.{◌≡◌, All, length, map, string_bytes, take}
use Rattle.tko_metrics.specs.Readings.{IsOfWorkers}
use Rattle.tko_metrics.proofs.reading.Shown.all.Given as goal

abbrev pub invariant-loop-place : goal.invariant-loop-place
invariant-loop-place l = record {
  addresses : map (λ server. server.address.now) l.servers.items ≡ map string_bytes (take l.place l.addresses);
  readings : All (λ server. IsOfWorkers (length l.shared.workers.items) server.reading) l.servers.items;
}

use Rattle.std.proofs.Common.{◌<◌, length}
use Rattle.tko_client.specs.Counts.{AreSendsCounted}
use Rattle.tko_client.proofs.counting.count_sends.Given as goal

abbrev pub invariant-loop : goal.invariant-loop
invariant-loop g l = record {
  counts : AreSendsCounted l.server l.counter l.initial.parts l.parts;
  within : l.server < length l.parts.backend.links;
}

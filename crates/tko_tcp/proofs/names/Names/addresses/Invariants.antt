use Rattle.tko_tcp.specs.ExchangeTimes.{IsLater}
use Rattle.tko_tcp.proofs.names.Names.addresses.Given as goal

abbrev pub invariant-loop : goal.invariant-loop
invariant-loop g l = IsLater l.initial.time l.time

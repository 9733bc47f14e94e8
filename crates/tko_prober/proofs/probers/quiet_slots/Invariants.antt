use Rattle.std.proofs.Common.{◌≡◌, replicate}
use Rattle.tko_prober.specs.declared.probers.ProbeSlot.TheVariants.{Quiet}
use Rattle.tko_prober.proofs.probers.quiet_slots.Given as goal

abbrev pub invariant-loop : goal.invariant-loop
invariant-loop l = l.slots.items ≡ replicate l.counter Quiet

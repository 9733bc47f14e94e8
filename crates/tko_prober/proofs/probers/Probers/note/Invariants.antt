use Rattle.std.proofs.Common.{◌≡◌, drop}
use Rattle.tko_prober.specs.Probers.{noted}
use Rattle.tko_prober.proofs.probers.Probers.note.Given as goal

abbrev pub invariant-loop-attempt : goal.invariant-loop-attempt
invariant-loop-attempt l = noted (drop l.attempt-index l.attempts) l.self ≡ noted l.attempts l.fn.self

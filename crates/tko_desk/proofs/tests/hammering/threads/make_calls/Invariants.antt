use Rattle.tko_tracker.specs.Seated.{IsOf}
use Rattle.tko_desk.proofs.tests.hammering.threads.make_calls.Given as goal

abbrev pub invariant-loop-turn : goal.invariant-loop-turn
invariant-loop-turn l = IsOf l.tracker l.pass

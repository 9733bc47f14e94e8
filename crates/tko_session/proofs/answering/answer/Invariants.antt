use Rattle.tko_session.specs.declared.step.Progress.TheVariants.{More}
use Rattle.tko_session.specs.Working.{Between}
use Rattle.std.proofs.Common.{◌≡◌, false, true}
use Rattle.tko_prober.specs.Probers.{AreQuiet, NoneMarked}
use Rattle.tko_session.specs.Effects.{effects}
use Rattle.tko_reply.specs.Answers.{Reaches}
use Rattle.tko_session.specs.SessionState.{HasAnswered, snapshot}
use Rattle.tko_session.proofs.answering.answer.Given as goal

abbrev pub invariant-loop : goal.invariant-loop
invariant-loop g l =
    HasAnswered (effects g.H.Health g.L.Links g.T.Trails g.C.Clock) More (snapshot l.fn.session l.fn.parts) (snapshot l.session l.parts)
    × Reaches g.H.Health.servers g.L.Links.servers l.parts
    × (NoneMarked l.fn.parts.backend.probers → l.session.owes ≡ false → NoneMarked l.parts.backend.probers)
    × (l.session.work ≡ Between)
    × (l.session.owes ≡ true → ¬ AreQuiet l.parts.backend.probers)

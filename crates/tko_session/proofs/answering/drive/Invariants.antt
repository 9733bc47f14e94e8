use Rattle.tko_reply.specs.Answers.{Reaches}
use Rattle.tko_session.specs.Driven.{IsSessionReady}
use Rattle.tko_session.specs.SessionState.{snapshot}
use Rattle.tko_session.proofs.FollowingLemmas.{IsOn}
use Rattle.tko_session.proofs.answering.drive.Given as goal

abbrev pub invariant-loop : goal.invariant-loop
invariant-loop g l =
    IsOn g.H.Health g.L.Links g.T.Trails g.C.Clock (snapshot l.fn.session l.fn.parts) l.step (snapshot l.session l.parts)
    × IsSessionReady l.parts.config l.session
    × Reaches g.H.Health.servers g.L.Links.servers l.parts

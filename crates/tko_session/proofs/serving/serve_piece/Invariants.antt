use Rattle.std.proofs.Common.{◌≡◌}
use Rattle.tko_session.specs.declared.step.Progress.TheVariants.{More}
use Rattle.tko_session.specs.Working.{Between}
use Rattle.tko_prober.specs.Probers.{NoneMarked}
use Rattle.tko_session.specs.Effects.{effects}
use Rattle.tko_reply.specs.Answers.{Reaches}
use Rattle.tko_session.specs.SessionState.{fed_state}
use Rattle.tko_session.specs.Ends.{AllDelivered}
use Rattle.tko_session.specs.Served.{delivering, delivery}
use Rattle.tko_session.proofs.serving.serve_piece.Given as goal

abbrev pub invariant-loop : goal.invariant-loop
invariant-loop g l =
    AllDelivered (delivering g.O.Outlet (effects g.H.Health g.L.Links g.T.Trails g.C.Clock)) More
    (delivery (fed_state l.fn.session l.piece) l.fn.parts l.fn.writer l.fn.written) (delivery l.session l.parts l.writer l.written)
    × Reaches g.H.Health.servers g.L.Links.servers l.parts
    × (l.session.work ≡ Between)
    × (NoneMarked l.fn.parts.backend.probers → NoneMarked l.parts.backend.probers)

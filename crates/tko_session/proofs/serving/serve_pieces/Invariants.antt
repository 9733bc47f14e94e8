use Rattle.std.proofs.Common.{◌≡◌, ◌<◌, length}
use Rattle.tko_session.specs.declared.step.Progress.TheVariants.{NeedsInput}
use Rattle.tko_session.specs.Working.{Between}
use Rattle.tko_prober.specs.Probers.{NoneMarked}
use Rattle.tko_session.specs.Effects.{effects}
use Rattle.tko_reply.specs.Answers.{Reaches}
use Rattle.tko_session.specs.Served.{ServedSoFar, context, delivery, serve_state, serving}
use Rattle.tko_session.proofs.serving.serve_pieces.Given as goal

abbrev pub invariant-loop : goal.invariant-loop
invariant-loop g l =
    ServedSoFar (serving g.I.Inlet g.O.Outlet (effects g.H.Health g.L.Links g.T.Trails g.C.Clock)) NeedsInput
    (context l.fn.reader l.fn.writer l.fn.parts) (serve_state l.reader (delivery l.session l.parts l.writer l.written))
    × (g.I.Inlet.failures l.reader ≡ g.I.Inlet.failures l.fn.reader)
    × (g.O.Outlet.failures l.writer ≡ g.O.Outlet.failures l.fn.writer)
    × Reaches g.H.Health.servers g.L.Links.servers l.parts
    × (0 < length l.buffer)
    × (l.session.work ≡ Between)
    × (NoneMarked l.fn.parts.backend.probers → NoneMarked l.parts.backend.probers)

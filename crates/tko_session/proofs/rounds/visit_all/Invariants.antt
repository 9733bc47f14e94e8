use Rattle.std.proofs.Common.{◌≡◌, ℕ, length}
use Rattle.tko_reply.specs.Answers.{Reaches}
use Rattle.tko_prober.specs.Ghosts.{backend_ghosts}
use Rattle.tko_prober.specs.Round.{AreVisited}
use Rattle.tko_session.proofs.rounds.visit_all.Given as goal

abbrev pub invariant-loop-server : goal.invariant-loop-server
invariant-loop-server g l =
    AreVisited (backend_ghosts g.H.Health g.L.Links g.C.Clock) l.moment l.fn.parts.backend l.server l.short l.parts.backend
    × ((server : ℕ) → g.L.Links.sent l.parts.backend.links server ≡ g.L.Links.sent l.fn.parts.backend.links server)
    × (l.parts ≡ record l.fn.parts { backend = l.parts.backend })
    × (length l.parts.backend.probers.slots ≡ length l.fn.parts.backend.probers.slots)
    × Reaches g.H.Health.servers g.L.Links.servers l.parts

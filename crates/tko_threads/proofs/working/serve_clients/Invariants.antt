use Rattle.tko_reply.specs.Answers.{Reaches}
use Rattle.tko_prober.specs.Ghosts.{backend_ghosts}
use Rattle.tko_threads.specs.ClientEnds.{attended, paced_outlet}
use Rattle.tko_threads.specs.Worked.{Works, at_work, with_share, worker_ghosts}
use Rattle.tko_threads.proofs.working.serve_clients.Given as goal

abbrev pub invariant-loop : goal.invariant-loop
invariant-loop g l =
    (goal.iterator-loop g).can_next l.iterator' × (goal.iterator-loop g).is_finite l.iterator'
    × Reaches g.H.Health.servers g.L.Links.servers l.working.parts
    × Works (worker_ghosts (attended {M = g.row.C-Clock.Denot} g.C.Reader.Inlet)
    (paced_outlet {M = g.row.C-Clock.Denot} g.C.Writer.Outlet)
    (backend_ghosts g.H.Health g.L.Links g.M.Clock))
    (with_share (at_work l.fn.working) l.fn.account.share.now)
    (with_share (at_work l.working) l.account.share.now)

use Rattle.std.specs.Prelude.{Result}
use Rattle.std.proofs.Common.{subst}
use Rattle.tko_prober.specs.Ghosts.{backend_ghosts}
use Rattle.tko_session.specs.declared.fault.SessionFault.{SessionFault}
use Rattle.tko_session.specs.declared.step.Report.{Report}
use Rattle.tko_threads.specs.ClientEnds.{attended}
use Rattle.tko_threads.specs.Worked.{IsSession, at_work, worker_ghosts}
use Rattle.tko_threads.proofs.working.Working.serve.Goals as goal

pub returns-clause-session : goal.returns-clause-session
returns-clause-session g c =
    subst (λ trails. (ended : Result Report SessionFault)
    × IsSession (worker_ghosts (attended {M = g.row.W.Denot} g.I.Inlet) g.O.Outlet
    (backend_ghosts g.H.Health g.L.Links g.M.Clock))
    (record (at_work c.args.self.now) {
      parts = record c.args.self.now.parts { trails = trails };
    }) ended (at_work c.serve_met.new.self))
    c.meet.ensures c.serve_met.ensures.session

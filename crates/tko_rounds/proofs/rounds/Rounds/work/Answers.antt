use Rattle.std.proofs.Common.{ap, length, refl}
use Rattle.tko_worker.proofs.ChangesLemmas.{keeps_on}
use Rattle.tko_rounds.specs.Workers.{parts_in, state_of}
use Rattle.tko_rounds.proofs.RoundLemmas.{round_begun}
use Rattle.tko_rounds.proofs.VisitLemmas.{probing_begun, probing_on, servers_on}
use Rattle.tko_rounds.proofs.rounds.Rounds.work.Goals as goal

pub returns-clause-round : goal.returns-clause-round
returns-clause-round g c =
    round_begun g.H.Health c.args.moment c.args.due (state_of c.args.self.now c.args.worker.now) c.visit.new.self.mux.limit
    (parts_in c.visit.new.self).backend c.visit.new.self.mux.lines c.visit_all.result
    (state_of c.visit_all.new.self c.visit_all.new.worker) c.visit.ensures.lines.limit c.visit.ensures.lines.lines
    (ap (λ p. p.backend) c.visit.ensures.does) c.visit_all.ensures.visits

pub returns-clause-only : goal.returns-clause-only
returns-clause-only g c = record {
  parts =
      probing_on
      (probing_begun c.args.moment (parts_in c.args.worker.now.clients) (parts_in c.visit.new.self)
      c.visit.ensures.does)
      c.visit_all.ensures.only.parts;
  clients = keeps_on c.visit.ensures.clients c.visit_all.ensures.only.clients;
  servers =
      servers_on
      (record {
        out = refl;
        lines = ap length c.visit.ensures.lines.lines;
        sockets = λ server. refl;
        count = refl;
      })
      c.visit_all.ensures.only.servers;
}

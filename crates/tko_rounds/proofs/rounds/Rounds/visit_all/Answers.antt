use Rattle.tko_rounds.specs.Workers.{state_of}
use Rattle.tko_rounds.proofs.RoundLemmas.{visited_more, visited_none}
use Rattle.tko_rounds.proofs.VisitLemmas.{only_none, only_on}
use Rattle.tko_rounds.proofs.rounds.Rounds.visit_all.Goals as goal

pub loop-server-init : goal.loop-server-init
loop-server-init g c = record {
  visits = visited_none c.args.moment c.args.due (state_of c.args.self.now c.args.worker.now);
  only = only_none (c.args.self.now, c.args.worker.now);
  order = c.requires.order;
}

pub loop-server-preserved : goal.loop-server-preserved
loop-server-preserved g c =
    let was = c.loop-server.invariant in
    let one = c.visit-short.ensures in record {
      visits =
          visited_more {old = state_of c.args.self.now c.args.worker.now}
          {mid = state_of c.loop-server.self c.loop-server.worker}
          {new = state_of c.visit-short.new.self c.visit-short.new.worker} was.visits one.visit;
      only =
          only_on {one = (c.args.self.now, c.args.worker.now)}
          {two = (c.loop-server.self, c.loop-server.worker)}
          {three = (c.visit-short.new.self, c.visit-short.new.worker)} was.only one.only;
      order = one.order;
    }

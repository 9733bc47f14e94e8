use Rattle.std.proofs.Common.{refl, rules}
use Rattle.tko_threads.specs.Worked.{begun_with}
use Rattle.tko_threads.proofs.WorkLemmas.{works_from}
use Rattle.tko_threads.proofs.working.worker.Goals as goal

pub returns-clause-worked : goal.returns-clause-worked
returns-clause-worked g c =
    let did = works_from (begun_with c.seat.result c.args.parts) (search rules) c.serve_clients.ensures.works in
    record {
      health = c.seat.result;
      begun = c.seat.ensures.begins;
      events = did.events;
      last = _;
      works = did.gains;
      end = _;
      full = c.settle.ensures.settled.0;
      settled = c.settle.ensures.settled.1;
      left = c.leave.ensures.leaves;
      report = refl {a = c.settle.new.self.report};
    }

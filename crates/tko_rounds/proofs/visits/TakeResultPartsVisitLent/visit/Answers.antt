use Rattle.std.proofs.Common.{ap}
use Rattle.tko_rounds.proofs.VisitLemmas.{come_of, only_probing, probing_of}
use Rattle.tko_rounds.proofs.visits.TakeResultPartsVisitLent.visit.Goals as goal

pub returns-clause-does : goal.returns-clause-does
returns-clause-does g c = λ within.
    let probing = probing_of c.args.lent.now.parts.backend c.came-reply.new.self c.came-reply.ensures.others in
    record {
      has_come =
          come_of g.H.Health c.args.self.moment c.args.lent.now.parts.backend c.args.self.server c.args.self.came
          c.came-reply.result c.came-reply.new.self (rw c.probed_by-probed.ensures at c.came-reply.ensures.result)
          c.came-reply.ensures.none;
      parts =
          only_probing c.args.lent.now.parts _
          (rw c.probed.ensures
          (ap (λ (b : _). record c.args.lent.now.parts { backend = b }) probing))
          c.came-reply.ensures.servers;
    }

use Rattle.tko_prober.proofs.RoundLemmas.{visited_passed, visited_sent}
use Rattle.std.proofs.Common.{refl}
use Rattle.tko_prober.proofs.backend.Backend.visit.Goals as goal

pub returns-in_default-clause-visit : goal.returns-in_default-clause-visit
returns-in_default-clause-visit g c =
    visited_passed c.args.moment c.args.self.now c.args.server c.due.new.self c.in_default.ensures.passed

pub returns-clause-visit : goal.returns-clause-visit
returns-clause-visit g c =
    visited_sent c.args.moment c.args.self.now c.due.new.self c.args.server
    (record { server = c.args.server; came = c.send_probe-came.result; reply = c.came-reply.result; probes = c.probes-probes.result })
    c.next-later.result c.send_probe-came.new.links c.next-later.new.self c.came-reply.new.self
    c.in-Some.ensures.sent
    (rw c.in-Some.ensures.names at c.send_probe-came.ensures.«record»)
    (rw c.in-Some.ensures.names at c.send_probe-came.ensures.spent)
    (rw c.in-Some.ensures.names at c.send_probe-came.ensures.probes)
    c.next-later.ensures
    (rw c.probed_of.ensures at c.came-reply.ensures.result)
    refl c.probes-probes.ensures

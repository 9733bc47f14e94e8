use Rattle.std.proofs.Common.{refl, ◌∙◌}
use Rattle.tko_rounds.specs.Workers.{parts_in, state_of}
use Rattle.tko_rounds.proofs.VisitLemmas.{next_lost}
use Rattle.tko_rounds.proofs.rounds.Rounds.send.Goals as goal

pub returns-in-Err-clause-next : goal.returns-in-Err-clause-next
returns-in-Err-clause-next g c =
    let found = c.in-Some.ensures.does c.requires.server.health in
    let kept = c.in-Err.ensures.err in
    let settle = c.settle.ensures in
    next_lost {health = g.H.Health} c.args.moment c.args.due c.args.server c.in-Some.duty
    (state_of c.args.self.now c.args.worker.now) c.settle.new.clients.mux.limit (parts_in c.settle.new.clients).backend
    (parts_in c.visit.new.self).backend c.settle.new.clients.mux.lines c.settle.new.self c.settle.result
    (rw c.if-is_out.false at c.is_out.ensures) found.due (rw kept at settle.settled.takes.has_come)
    (settle.settled.counted.uncounted refl)
    (rw kept at settle.only.lines.limit ∙ c.in-Some.ensures.lines.limit) (rw kept at settle.only.lines.lines ∙ c.in-Some.ensures.lines.lines)

use Rattle.std.proofs.Common.{sym}
use Rattle.tko_worker.specs.Turns.{probed_at}
use Rattle.tko_rounds.specs.Workers.{parts_in, state_of}
use Rattle.tko_rounds.proofs.VisitLemmas.{probed_same, took_one}
use Rattle.tko_rounds.proofs.rounds.Rounds.take.Goals as goal

pub returns-clause-taken : goal.returns-clause-taken
returns-clause-taken g c =
    let now = c.in-Some.ensures.clients in
    let settle = c.settle.ensures in
    took_one {health = g.H.Health} c.args.moment c.args.server (state_of c.args.self.now c.args.worker.now)
    c.settle.new.clients.mux.limit (parts_in c.settle.new.clients).backend c.settle.new.clients.mux.lines
    (probed_at c.probed.new.self.peers.items) c.set_out.new.self c.settle.new.self (record { came = c.in-Some.came; reply = c.settle.result })
    (rw c.if-not-is_out.false at c.is_out.ensures) (sym c.in-Some.ensures.came) c.in-Some.ensures.gone
    (λ at other. probed_same c.args.worker.now.peers.items c.probed.new.self.peers.items at (c.in-Some.ensures.others at other))
    (rw now at settle.settled.takes.has_come) c.set_out.ensures settle.settled.counted
    (rw now at settle.only.lines.limit) (rw now at settle.only.lines.lines)

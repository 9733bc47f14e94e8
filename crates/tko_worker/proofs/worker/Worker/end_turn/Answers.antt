use Rattle.std.proofs.Common.{rules}
use Rattle.tko_worker.proofs.ActedLemmas.{worker_acted_on}
use Rattle.tko_worker.proofs.TurnLemmas.{turn_taken}
use Rattle.tko_worker.proofs.worker.Worker.end_turn.Goals as goal

pub returns-clause-taken : goal.returns-clause-taken
returns-clause-taken g c =
    turn_taken c.min-count.result c.args.self.now.spent c.serve_touched.new.self.spent
    c.serve_put_off.new.self.spent (search rules) (search rules) c.serve_put_off.ensures.taken

pub returns-clause-acted : goal.returns-clause-acted
returns-clause-acted g c =
    worker_acted_on (g.T.Talking.awaited, g.T.Talking.talk, g.L.Port.port) c.args.self.now
    c.serve_touched.new.self c.serve_put_off.new.self (search rules)
    c.serve_put_off.ensures.acted

use Rattle.std.proofs.Common.{rules, [], subst}
use Rattle.tko_worker.specs.Workers.{ListEnds}
use Rattle.tko_worker.proofs.CountLemmas.{served_listed}
use Rattle.tko_worker.proofs.RestLemmas.{served_after}
use Rattle.tko_worker.proofs.ActedLemmas.{acted_on, listed_acted}
use Rattle.tko_worker.proofs.serving.serve.Goals as goal

pub returns-then-is_spent-clause-served : goal.returns-then-is_spent-clause-served
returns-then-is_spent-clause-served g c =
    served_after (g.T.Talking.awaited, g.T.Talking.talk, g.L.Port.port)
    (λ guest. g.T.Talking.asks_for guest.talk) c.args.mux.now c.is_spent.new.mux c.put.new.mux
    c.args.number c.args.due c.args.spent.now c.put.new.numbers
    c.if-is_spent.ensures.ends.served c.put.ensures.listed

pub returns-then-is_spent-clause-counted : goal.returns-then-is_spent-clause-counted
returns-then-is_spent-clause-counted g c =
    served_listed (g.T.Talking.awaited, g.T.Talking.talk, g.L.Port.port)
    (λ guest. g.T.Talking.asks_for guest.talk) c.args.mux.now c.is_spent.new.mux c.put.new.mux
    c.args.ends.now c.put.new.ends c.args.number c.args.due c.args.spent.now
    c.put.new.numbers c.if-is_spent.ensures.ends.served
    (subst (λ e. ListEnds (g.T.Talking.awaited, g.T.Talking.talk, g.L.Port.port) (c.is_spent.new.mux, e) c.args.number
    [] c.args.spent.now (c.put.new.mux, c.put.new.ends) c.put.new.numbers)
    (search rules) c.put.ensures.ends)

pub returns-then-is_spent-clause-acted : goal.returns-then-is_spent-clause-acted
returns-then-is_spent-clause-acted g c =
    acted_on (g.T.Talking.awaited, g.T.Talking.talk, g.L.Port.port)
    (c.args.mux.now.roster, c.args.ends.now) (c.is_spent.new.mux.roster, c.is_spent.new.ends)
    (c.put.new.mux.roster, c.put.new.ends) c.is_spent.ensures.acted
    (listed_acted (g.T.Talking.awaited, g.T.Talking.talk, g.L.Port.port)
    (c.is_spent.new.mux, c.is_spent.new.ends) (c.put.new.mux, c.put.new.ends) c.args.number
    [] c.args.spent.now c.put.new.numbers c.put.ensures.ends)

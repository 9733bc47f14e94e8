use Rattle.std.proofs.Common.{ap, length, rules, arith, ◌≡◌, ◌+◌, ◌∷◌, subst}
use Rattle.tko_worker.proofs.ActedLemmas.{acted_on}
use Rattle.tko_worker.proofs.ListedLemmas.{one_served, put_off_taken}
use Rattle.tko_worker.proofs.TurnLemmas.{next_taken, one_is_left, served_off}
use Rattle.tko_worker.specs.Workers.{NobodyForgotten, WorkerState}
use Rattle.tko_worker.proofs.worker.Worker.serve_put_off.Goals as goal

pub loop-preserved : goal.loop-preserved
loop-preserved g c =
    let len = ap (λ (w : WorkerState _ _ _). length w.spent) c.self.view_is in
    let first : c.loop.self-inside.spent ≡ c.in-Some.number ∷ c.pop.new.self = search rules in
    record {
      ready = c.serve.ensures.order.ready;
      linked = c.serve.ensures.order.linked;
      nobody = one_served (g.T.Talking.awaited, g.T.Talking.talk, g.L.Port.port)
          (λ guest. g.T.Talking.asks_for guest.talk) c.loop.self-inside.mux c.serve.new.mux
          c.in-Some.number c.args.due c.loop.self-inside.touched c.loop.self-inside.touched
          (c.in-Some.number ∷ c.pop.new.self) c.pop.new.self c.serve.new.spent
          (subst (λ t. NobodyForgotten (g.T.Talking.awaited, g.T.Talking.talk, g.L.Port.port)
          c.loop.self-inside.mux.roster.slots c.loop.self-inside.touched t) first
          c.loop.invariant.nobody)
          (put_off_taken c.in-Some.number c.loop.self-inside.touched c.pop.new.self)
          c.serve.ensures.others c.serve.ensures.served;
      touched = c.loop.invariant.touched;
      taken = served_off (g.T.Talking.awaited, g.T.Talking.talk, g.L.Port.port)
          (λ guest. g.T.Talking.asks_for guest.talk) c.loop.self-inside.mux c.serve.new.mux
          (c.loop.counter + 1) c.in-Some.number c.args.due c.self.inside.spent
          c.pop.new.self c.serve.new.spent
          (next_taken c.loop.counter c.in-Some.number c.self.inside.spent
          c.loop.self-inside.spent c.pop.new.self c.loop.invariant.taken first
          (omega (arith, len))) c.serve.ensures.served;
      acted = acted_on (g.T.Talking.awaited, g.T.Talking.talk, g.L.Port.port) _
          (c.loop.self-inside.mux.roster, c.loop.self-inside.ends)
          (c.serve.new.mux.roster, c.serve.new.ends) c.loop.invariant.acted c.serve.ensures.acted;
    }

pub unreachable-requires : goal.unreachable-requires
unreachable-requires g c =
    let len = ap (λ (w : WorkerState _ _ _). length w.spent) c.self.view_is in
    one_is_left c.loop.counter c.self.inside.spent c.loop.self-inside.spent
    c.loop.invariant.taken (omega (arith, len)) (search rules)

use Rattle.std.proofs.Common.{rules, arith, ◌≡◌, ◌∷◌, ap, length, subst}
use Rattle.tko_worker.proofs.ActedLemmas.{acted_on}
use Rattle.tko_worker.proofs.ListedLemmas.{one_served, touched_taken}
use Rattle.tko_worker.proofs.TurnLemmas.{served_off}
use Rattle.tko_worker.specs.Workers.{NobodyForgotten}
use Rattle.tko_worker.proofs.worker.Worker.serve_touched.Goals as goal

pub loop-preserved : goal.loop-preserved
loop-preserved g c =
    let first : c.loop.self-inside.touched ≡ c.in-Some.number ∷ c.pop.new.self = search rules in
    let len : length c.loop.self-inside.touched ≡ length (c.in-Some.number ∷ c.pop.new.self) =
    ap length first in
    record {
      ready = c.serve.ensures.order.ready;
      linked = c.serve.ensures.order.linked;
      nobody = one_served (g.T.Talking.awaited, g.T.Talking.talk, g.L.Port.port)
          (λ guest. g.T.Talking.asks_for guest.talk) c.loop.self-inside.mux c.serve.new.mux
          c.in-Some.number c.args.due (c.in-Some.number ∷ c.pop.new.self) c.pop.new.self
          c.loop.self-inside.spent c.loop.self-inside.spent c.serve.new.spent
          (subst (λ t. NobodyForgotten (g.T.Talking.awaited, g.T.Talking.talk, g.L.Port.port)
          c.loop.self-inside.mux.roster.slots t c.loop.self-inside.spent) first
          c.loop.invariant.nobody)
          (touched_taken c.in-Some.number c.pop.new.self c.loop.self-inside.spent)
          c.serve.ensures.others c.serve.ensures.served;
      left = omega (arith, len, c.loop.invariant.left);
      later = served_off (g.T.Talking.awaited, g.T.Talking.talk, g.L.Port.port)
          (λ guest. g.T.Talking.asks_for guest.talk) c.loop.self-inside.mux c.serve.new.mux
          0 c.in-Some.number c.args.due c.self.inside.spent c.loop.self-inside.spent
          c.serve.new.spent c.loop.invariant.later c.serve.ensures.served;
      acted = acted_on (g.T.Talking.awaited, g.T.Talking.talk, g.L.Port.port) _
          (c.loop.self-inside.mux.roster, c.loop.self-inside.ends)
          (c.serve.new.mux.roster, c.serve.new.ends) c.loop.invariant.acted c.serve.ensures.acted;
    }

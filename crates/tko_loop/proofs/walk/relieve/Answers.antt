use Rattle.std.proofs.Common.{◌≡◌, ◌∷◌, ◌++◌, ◌+◌, [], ap, ◌∙◌, length, length-append, drop, take, arith, rules, subst, sym}
use Rattle.std.proofs.lemmas.List.{take-append-le, take_all}
use Rattle.tko_model.proofs.RecordLemmas.{gains_push}
use Rattle.tko_loop.specs.Walks.{AreWaits, IsDismissed}
use Rattle.tko_loop.proofs.walk.relieve.Goals as goal

pub loop-preserved : goal.loop-preserved
loop-preserved g c =
    let was = c.loop.invariant in
    let number = c.in-Some.number in
    let all : length c.deref_mut.result.now ≡ c.loop.waits.len = search rules in
    let size : length c.dismiss.new.waits ≡ c.loop.waits.len = c.dismiss.auto.waits ∙ all in
    let same : take c.loop.waits.len (c.dismiss.new.waits
    ++ drop (length c.dismiss.new.waits) c.loop.waits.items) ≡ c.dismiss.new.waits =
    take-append-le c.loop.waits.len c.dismiss.new.waits _ (omega (arith, size))
    ∙ take_all c.loop.waits.len c.dismiss.new.waits (omega (arith, size)) in record {
      order = c.dismiss.ensures.order;
      waits = subst (AreWaits (g.T.Talking.awaited, g.T.Talking.talk, g.L.Port.port)
          c.dismiss.new.clients.mux.roster.slots) (sym same) c.dismiss.ensures.waits;
      left = (
        was.left.0 ++ number ∷ [],
        gains_push was.left.1 (record {
          heaviest = c.in-Some.ensures;
          leaves = c.dismiss.ensures.leaves;
          others = c.dismiss.ensures.others;
        }),
        length-append was.left.0 (number ∷ []) ∙ ap (λ n. n + 1) was.left.2,
      );
    }

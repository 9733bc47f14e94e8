use Rattle.std.proofs.Common.{◌≡◌, ap, arith, false, length, List, None, reverse, subst, sym, take, take_all}
use Rattle.tko_runs.specs.declared.checking.effect.Effect.{Effect}
use Rattle.tko_runs.specs.Effects.{AreEffects}
use Rattle.tko_runs.proofs.JudgeLemmas.{effective, no_effects, so_far_more}
use Rattle.tko_runs.proofs.checking.point.point_of.Goals as goal

pub loop-effect-init : goal.loop-effect-init
loop-effect-init c = λ s call steps answer are. no_effects s call steps are

pub loop-effect-preserved : goal.loop-effect-preserved
loop-effect-preserved c = λ s call steps answer are.
    let none : Effect = record { at = 0; is_quiet = false; gives = None } in
    so_far_more s call c.args.call.now.steps.items c.deref-effect-items.result.now c.loop-effect.effect-index none
    c.loop-effect.so_far c.with-so_far.result c.deref-effect-items.ensures.value c.loop-effect-test.true
    (λ before. c.loop-effect.invariant s call before answer)
    (λ own older shows.
    c.with-so_far.ensures s call own older shows
    (effective s call c.args.call.now.answer own _ c.is_effect.result answer shows c.is_effect.ensures))
    steps are

pub returns : goal.returns
returns c = λ s call kept.
    let items = c.args.call.now.steps.items in
    let all : take c.loop-effect.effect-index items ≡ items = take_all c.loop-effect.effect-index items (omega (arith, ap (λ (effects : List Effect). length effects) c.deref-effect-items.ensures.value)) in
    c.point_by.ensures s call (sym kept.answer)
    (c.loop-effect.invariant s call call.steps (sym kept.answer)
    (subst (λ (effects : List Effect). AreEffects s call call.steps (reverse effects)) (sym all) kept.steps))

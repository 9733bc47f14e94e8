-- What the so_far of a call's steps says of the call.
use Rattle.std.proofs.Common.{◌≡◌, ◌≢◌, ◌↔◌, ℕ, true, Bool, List, [], ◌∷◌, All, Option, Some, None, refl, sym, ap, ◌∙◌, subst, ◌+◌, ◌<◌, length, get_or, take, reverse}
use Rattle.std.proofs.lemmas.List.{reverse-append, take_more}
use Rattle.std.proofs.lemmas.List.Elements.{All-weaker}
use Rattle.tko_model.specs.declared.mark.Reply.{Reply}
use Rattle.tko_model.specs.declared.mark.Reply.TheVariants.{Contended}
use Rattle.tko_model.specs.Settings.{Settings}
use Rattle.tko_runs.specs.declared.checking.point.PointSoFar.{PointSoFar}
use Rattle.tko_runs.specs.declared.checking.point.PointSoFar.TheVariants.{Quiet, Changed}
use Rattle.tko_runs.specs.declared.checking.effect.Effect.{Effect}
use Rattle.tko_runs.specs.declared.checking.order.Point.TheVariants as point
use Rattle.tko_runs.specs.Orders.{IsLastLegalAt}
use Rattle.tko_runs.specs.Effects.{AreEffects, IsEffect, Judges}
use Rattle.tko_runs.specs.Points.{MayTakeEffect, IsEffective, MayHave, IsSoFar}
use Rattle.tko_steps.specs.Legal.{ChangesNothing, IsLegal, IsLegalAt, TakesEffect}
use Rattle.tko_steps.specs.Runs.{OwnStep, RunCall}
use Rattle.tko_runs.proofs.PointLemmas.{all_newer, all_others, all_own, all_with, no_step}

-- Steps with what they show.

-- a step's effect answers the call where the call takes effect there
pub effective : (s : Settings) (call : RunCall) (answer : Option Reply) (own : OwnStep) (effect : Effect) (test : Bool)
    → call.answer ≡ answer → IsEffect s call own effect → (test ≡ true) ↔ MayTakeEffect answer effect.gives
    → (test ≡ true) ↔ IsEffective s call own
effective s call answer own effect test same shows both = (
  λ e.
      let has = both.0 e in
      record {
        reply = has.reply;
        answers = subst (λ found. MayHave found has.reply) (sym same) has.answers;
        effect = (shows.gives has.reply).0 has.is;
      },
  λ effect.
      both.1 (record {
        reply = effect.reply;
        answers = subst (λ found. MayHave found effect.reply) same effect.answers;
        is = (shows.gives effect.reply).1 effect.effect;
      }),
)

pub no_effects : (s : Settings) (call : RunCall) (steps : List OwnStep) → AreEffects s call steps []
    → IsSoFar s call steps (Quiet None)
no_effects s call [] are = no_step s call
no_effects s call (own ∷ older) are = absurd are

one_more : (s : Settings) (call : RunCall) (effect : Effect) (effects : List Effect) (before after : PointSoFar)
    → ((steps : List OwnStep) → AreEffects s call steps effects → IsSoFar s call steps before)
    → ((own : OwnStep) (older : List OwnStep) → IsEffect s call own effect → IsSoFar s call older before
    → IsSoFar s call (own ∷ older) after)
    → (steps : List OwnStep) → AreEffects s call steps (effect ∷ effects) → IsSoFar s call steps after
one_more s call effect effects before after so_far next [] are = absurd are
one_more s call effect effects before after so_far next (own ∷ older) are =
    next own older are.0 (so_far older are.1)

-- the newest first, one more stands in front
reverse_more : (effects : List Effect) (place : ℕ) (none : Effect) → place < length effects
    → reverse (take (place + 1) effects) ≡ get_or effects place none ∷ reverse (take place effects)
reverse_more effects place none inside =
    ap reverse (take_more effects place none inside) ∙ reverse-append (take place effects) (get_or effects place none ∷ [])

pub so_far_more : (s : Settings) (call : RunCall) (effects given : List Effect) (place : ℕ) (none : Effect) (before after : PointSoFar)
    → given ≡ effects → place < length given
    → ((steps : List OwnStep) → AreEffects s call steps (reverse (take place effects)) → IsSoFar s call steps before)
    → ((own : OwnStep) (older : List OwnStep) → IsEffect s call own (get_or given place none) → IsSoFar s call older before
    → IsSoFar s call (own ∷ older) after)
    → (steps : List OwnStep) → AreEffects s call steps (reverse (take (place + 1) effects)) → IsSoFar s call steps after
so_far_more s call effects given place none before after same inside so_far next steps are =
    let within : place < length effects = subst (λ (items : List Effect). place < length items) same inside in
    let one : get_or given place none ≡ get_or effects place none = ap (λ (items : List Effect). get_or items place none) same in
    one_more s call (get_or effects place none) (reverse (take place effects)) before after so_far
    (λ own older shows. next own older (subst (IsEffect s call own) (sym one) shows)) steps
    (subst (AreEffects s call steps) (reverse_more effects place none within) are)

-- What that says of the call.

module _ (s : Settings) (call : RunCall) where
  effect_as : (reply : Reply) (own : OwnStep) → call.answer ≡ Some reply → IsEffective s call own
      → TakesEffect s call reply own.step
  effect_as reply own answer effect =
      let same : effect.reply ≡ reply = subst (λ found. MayHave found effect.reply) answer effect.answers in
      rw same at effect.effect

  answered_effect : (reply : Reply) (own : OwnStep) → call.answer ≡ Some reply → TakesEffect s call reply own.step
      → IsEffective s call own
  answered_effect reply own answer effect =
      record { reply = reply; answers = subst (λ found. MayHave found reply) (sym answer) refl; effect = effect }

  legal_answered : (reply : Reply) (own : OwnStep) → call.answer ≡ Some reply → reply ≢ Contended
      → IsLegalAt s call reply own → IsLegal s call
  legal_answered reply own answer apart legal =
      record {
        answered = λ other e not.
            let same : reply ≡ other = cc in
            let P : Reply → Type 0 = λ it. (at : OwnStep) × IsLegalAt s call it at in
            subst P same (own, legal);
        contended = λ e. absurd (apart cc);
        open_yet = λ e. absurd cc;
      }

  judges_at : (reply : Reply) (own : OwnStep) (number : ℕ) → call.answer ≡ Some reply → reply ≢ Contended
      → IsLastLegalAt s call reply own → own.at ≡ number → Judges s call (Some (point.At number))
  judges_at reply own number answer apart last at = (
    legal_answered reply own answer apart
        (record {
          newer = last.newer;
          older = last.older;
          steps = last.steps;
          effect = last.effect;
          others = last.others;
        }),
    (reply, own, answer, apart, last, at),
  )

  -- where the call is legal at a step, it takes effect there
  not_legal_at : (reply : Reply) (other : OwnStep) → call.answer ≡ Some reply → (IsEffective s call other → ⊥)
      → IsLegalAt s call reply other → ⊥
  not_legal_at reply other answer not legal = not (answered_effect reply other answer legal.effect)

  pub answered_quiet : (reply : Reply) (number : ℕ) → call.answer ≡ Some reply → reply ≢ Contended
      → IsSoFar s call call.steps (Quiet (Some number)) → Judges s call (Some (point.At number))
  answered_quiet reply number answer apart stands =
      judges_at reply stands.own number answer apart
      (record {
        newer = stands.newer;
        older = stands.older;
        steps = stands.split;
        effect = effect_as reply stands.own answer stands.effect;
        others = all_others ChangesNothing stands.newer stands.own stands.older (rw stands.split at stands.quiet);
        last = All-weaker (λ other. IsEffective s call other → ⊥) (λ other. IsLegalAt s call reply other → ⊥)
            (λ other. not_legal_at reply other answer) stands.newer stands.last;
      })
      stands.at

  -- a call is not legal at a quiet step where another step isn't quiet
  not_legal_quiet : (reply : Reply) (other : OwnStep) → (All ChangesNothing call.steps → ⊥) → ChangesNothing other
      → IsLegalAt s call reply other → ⊥
  not_legal_quiet reply other changed quiet legal =
      let P : List OwnStep → Type 0 = λ steps. All ChangesNothing steps in
      changed (subst P (sym legal.steps) (all_with ChangesNothing legal.newer other legal.older legal.others quiet))

  pub answered_changed : (reply : Reply) (number : ℕ) → call.answer ≡ Some reply → reply ≢ Contended
      → IsSoFar s call call.steps (Changed (Some number)) → Judges s call (Some (point.At number))
  answered_changed reply number answer apart stands =
      judges_at reply stands.own number answer apart
      (record {
        newer = stands.newer;
        older = stands.older;
        steps = stands.split;
        effect = effect_as reply stands.own answer stands.effect;
        others = stands.others;
        last = All-weaker ChangesNothing (λ other. IsLegalAt s call reply other → ⊥)
            (λ other. not_legal_quiet reply other
            (λ all. stands.changed (all_own ChangesNothing stands.newer stands.own stands.older (rw stands.split at all))))
            stands.newer (all_newer ChangesNothing stands.newer stands.older stands.others);
      })
      stands.at

  pub answered_quiet_nowhere : (reply : Reply) → call.answer ≡ Some reply → reply ≢ Contended
      → IsSoFar s call call.steps (Quiet None) → Judges s call None
  answered_quiet_nowhere reply answer apart stands = λ legal.
      let at = legal.answered reply answer apart in
      let P : OwnStep → Type 0 = λ other. IsEffective s call other → ⊥ in
      all_own P at.1.newer at.0 at.1.older (subst (All P) at.1.steps stands.nowhere)
      (answered_effect reply at.0 answer at.1.effect)

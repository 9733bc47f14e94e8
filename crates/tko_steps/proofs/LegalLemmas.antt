-- When a call is legal, and what one more step makes of the steps before it.
use Rattle.std.proofs.Common.{◌≡◌, ℕ, ◌+◌, ◌≤◌, List, [], ◌∷◌, ◌++◌, set, All, Some, None, inl, inr, refl, sym, ap, ◌∙◌, subst, arith}
use Rattle.std.proofs.lemmas.List.Elements.{All-cons, All-head, All-tail}
use Rattle.tko_model.specs.declared.mark.Mark.{Mark}
use Rattle.tko_model.specs.declared.mark.Reply.{Reply}
use Rattle.tko_model.specs.declared.mark.Reply.TheVariants.{Contended, Full}
use Rattle.tko_model.specs.Settings.{Settings}
use Rattle.tko_model.specs.declared.state.ServerState.{ServerState}
use Rattle.tko_model.specs.declared.transition.Transition.{Transition}
use Rattle.tko_model.specs.Groups.{limit_at}
use Rattle.tko_model.specs.Tracker.{becomes, changed, has_room, server_at, softs_beside, stays, transition}
use Rattle.tko_steps.specs.declared.phase.Call.{Call as CallState}
use Rattle.tko_steps.specs.Legal.{ChangesAtMostOnce, ChangesNothing, IsFullAtLimit, IsLegal, IsLegalAt, TakesEffect}
use Rattle.tko_steps.specs.Runs.{OwnStep, RunCall, StepTaken, and_step}
use Rattle.tko_steps.proofs.StartLemmas.{transition-sound}

-- ---- steps of which at most one changes something

once-quiet : (steps : List OwnStep) → All ChangesNothing steps → ChangesAtMostOnce steps
once-quiet [] quiet = tt
once-quiet (own ∷ older) quiet = inl (All-tail ChangesNothing own older quiet)

once-but_one : (newer older : List OwnStep) (own : OwnStep) → All ChangesNothing (newer ++ older) → ChangesAtMostOnce (newer ++ own ∷ older)
once-but_one [] older own quiet = inl quiet
once-but_one (first ∷ newer) older own quiet =
    inr (All-head ChangesNothing first (newer ++ older) quiet, once-but_one newer older own (All-tail ChangesNothing first (newer ++ older) quiet))

-- ---- a call that is legal, what it answers and where

-- the call is legal with this reply at one of its steps, before which the limit held
pub record IsDone (s : Settings) (call : RunCall) (answer : Reply) : Type 0 where
  pub own : OwnStep
  pub legal : IsLegalAt s call answer own
  pub limit : softs_beside s call.server own.step.before ≤ limit_at s call.server

-- what the law says of each call
pub record IsSoundCall (s : Settings) (call : RunCall) : Type 0 where
  pub legal : IsLegal s call
  pub once : ChangesAtMostOnce call.steps
  pub full : IsFullAtLimit s call

IsDone-once : (s : Settings) (call : RunCall) (answer : Reply) → IsDone s call answer → ChangesAtMostOnce call.steps
IsDone-once s call answer done =
    let it = done.legal in
    subst ChangesAtMostOnce (sym it.steps) (once-but_one it.newer it.older done.own it.others)

-- a call without an answer that changed nothing
pub sound-quiet : (s : Settings) (call : RunCall) → call.answer ≡ None → All ChangesNothing call.steps → IsSoundCall s call
sound-quiet s call unanswered quiet =
    record {
      legal = record { answered = λ reply e differs. cc; contended = λ e. cc; open_yet = λ e. inl quiet };
      once = once-quiet call.steps quiet;
      full = λ e. cc;
    }

-- a call that took effect and has no answer yet
pub sound-done : (s : Settings) (call : RunCall) (answer : Reply) → call.answer ≡ None → IsDone s call answer → IsSoundCall s call
sound-done s call answer unanswered done =
    record {
      legal = record { answered = λ reply e differs. cc; contended = λ e. cc; open_yet = λ e. inr (answer, done.own, done.legal) };
      once = IsDone-once s call answer done;
      full = λ e. cc;
    }

-- a call that lost every try
pub sound-contended : (s : Settings) (call : RunCall) → call.answer ≡ Some Contended → All ChangesNothing call.steps → IsSoundCall s call
sound-contended s call answered quiet =
    record {
      legal = record {
        answered = λ reply e differs. let same : reply ≡ Contended = cc in absurd (differs same);
        contended = λ e. quiet;
        open_yet = λ e. cc;
      };
      once = once-quiet call.steps quiet;
      full = λ e. cc;
    }

-- a call that is answered as it took effect
pub sound-answered : (s : Settings) (call : RunCall) (answer : Reply) → call.answer ≡ Some answer → IsDone s call answer → IsSoundCall s call
sound-answered s call answer answered done =
    let before = done.own.step.before in
    let it = server_at before call.server in
    let sound = transition-sound s (limit_at s call.server) (softs_beside s call.server before) call.number call.op it.mark it.stamp in
    let told = done.legal.effect.reply in
    record {
      legal = record {
        answered = λ reply e differs.
            let same : answer ≡ reply = cc in
            let P : Reply → Type 0 = λ r. IsLegalAt s call r done.own in
            (done.own, subst P same done.legal);
        contended = λ e. let same : answer ≡ Contended = cc in absurd (sound.contended (told ∙ same));
        open_yet = λ e. cc;
      };
      once = IsDone-once s call answer done;
      full = λ e.
          let same : answer ≡ Full = cc in
          let P : Reply → Type 0 = λ r. IsLegalAt s call r done.own in
          record { own = done.own; legal = subst P same done.legal; limit = omega (arith, sound.full (told ∙ same), done.limit) };
    }

-- ---- one more step

-- the call of a thread at a phase, with the steps that it took
abbrev pub open_call : ℕ → CallState → List OwnStep → RunCall
open_call thread call steps =
    record { thread = thread; number = call.number; op = call.op; server = call.server; steps = steps; answer = None }

-- the newest step takes effect, and the older ones changed nothing
pub done-here : (s : Settings) (call : RunCall) (own : OwnStep) (answer : Reply) → All ChangesNothing call.steps → TakesEffect s call answer own.step
    → softs_beside s call.server own.step.before ≤ limit_at s call.server → IsDone s (and_step call own) answer
done-here s call own answer quiet effect limit =
    record {
      own = own;
      legal = record { newer = []; older = call.steps; steps = refl; effect = record { reply = effect.reply; change = effect.change }; others = quiet };
      limit = limit;
    }

-- the call took effect before, and the newest step changes nothing
pub done-before : (s : Settings) (call : RunCall) (own : OwnStep) (answer : Reply) → IsDone s call answer → ChangesNothing own
    → IsDone s (and_step call own) answer
done-before s call own answer done quiet =
    let it = done.legal in
    record {
      own = done.own;
      legal = record {
        newer = own ∷ it.newer;
        older = it.older;
        steps = ap (λ steps. own ∷ steps) it.steps;
        effect = record { reply = it.effect.reply; change = it.effect.change };
        others = All-cons ChangesNothing own (it.newer ++ it.older) quiet it.others;
      };
      limit = done.limit;
    }

-- ---- what takes effect

module _ (s : Settings) (call : RunCall) (step : StepTaken) where
  abbrev it : ServerState
  it = server_at step.before call.server

  -- an operation that changes nothing here
  pub effect-stays : (answer : Reply) → transition s (has_room s step.before call.server) call.number call.op it.mark it.stamp ≡ stays answer
      → step.after ≡ step.before → TakesEffect s call answer step
  effect-stays answer decides quiet =
      record {
        reply = ap (λ (t : Transition). t.reply) decides;
        change = ap (λ (t : Transition). changed step.before call.server t.change) decides ∙ sym quiet;
      }

  -- an operation that puts this mark there
  pub effect-becomes : (mark : Mark) (answer : Reply)
      → transition s (has_room s step.before call.server) call.number call.op it.mark it.stamp ≡ becomes mark answer
      → step.after ≡ set step.before call.server (record { mark = mark; stamp = it.stamp + 1 }) → TakesEffect s call answer step
  effect-becomes mark answer decides wrote =
      record {
        reply = ap (λ (t : Transition). t.reply) decides;
        change = ap (λ (t : Transition). changed step.before call.server t.change) decides ∙ sym wrote;
      }

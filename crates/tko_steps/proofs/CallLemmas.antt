-- The calls of a past, and what one more step does to them.
use Rattle.std.proofs.Common.{◌≡◌, ℕ, Bool, true, false, cond, eqb, List, [], ◌∷◌, All, Option, Some, None, refl, sym, ap, ◌∙◌}
use Rattle.std.proofs.lemmas.Bool.{eq-eqb, eqb-true, ne_eqb}
use Rattle.std.proofs.lemmas.List.Elements.{All-nil, All-cons, All-head, All-tail}
use Rattle.tko_model.specs.declared.mark.Op.{Op}
use Rattle.tko_steps.specs.Legal.{IsNewestStep}
use Rattle.tko_steps.specs.Runs.{OwnStep, RunCall, and_step, begun_call, with_step}

-- the call that a thread began last
abbrev pub latest : ℕ → List RunCall → Option RunCall
latest thread [] = None
latest thread (call ∷ calls) = cond (eqb call.thread thread) (Some call) (latest thread calls)

pub latest-begun_call : (thread number : ℕ) (op : Op) (server : ℕ) (calls : List RunCall)
    → latest thread (begun_call thread number op server ∷ calls) ≡ Some (begun_call thread number op server)
latest-begun_call thread number op server calls = rw (eq-eqb thread thread refl)

pub latest-begun_call_other : (thread number : ℕ) (op : Op) (server : ℕ) (calls : List RunCall) (other : ℕ) → (other ≡ thread → ⊥)
    → latest other (begun_call thread number op server ∷ calls) ≡ latest other calls
latest-begun_call_other thread number op server calls other apart = rw (ne_eqb thread other (λ e. apart (sym e)))

skips : (own : OwnStep) (call : RunCall) (calls rest : List RunCall) (found : Option RunCall) (test : Bool)
    → cond test (Some call) found ≡ None → (found ≡ None → rest ≡ calls)
    → cond test (and_step call own ∷ calls) (call ∷ rest) ≡ call ∷ calls
skips own call calls rest found true none same = cc
skips own call calls rest found false none same = ap (λ others. call ∷ others) (same none)

-- a step of a thread without a call belongs to none
pub with_step-none : (own : OwnStep) (calls : List RunCall) → latest own.step.thread calls ≡ None → with_step own calls ≡ calls
with_step-none own [] none = refl
with_step-none own (call ∷ calls) none =
    skips own call calls (with_step own calls) (latest own.step.thread calls) (eqb call.thread own.step.thread) none (with_step-none own calls)

latest-either : (own : OwnStep) (call : RunCall) (calls rest : List RunCall) (other : ℕ) (test : Bool)
    → (test ≡ true → eqb call.thread other ≡ false) → latest other rest ≡ latest other calls
    → latest other (cond test (and_step call own ∷ calls) (call ∷ rest)) ≡ latest other (call ∷ calls)
latest-either own call calls rest other true differs same = rw (differs refl) refl
latest-either own call calls rest other false differs same = ap (λ found. cond (eqb call.thread other) (Some call) found) same

-- the calls of other threads stay
pub latest-with_step_other : (own : OwnStep) (calls : List RunCall) (other : ℕ) → (other ≡ own.step.thread → ⊥)
    → latest other (with_step own calls) ≡ latest other calls
latest-with_step_other own [] other apart = refl
latest-with_step_other own (call ∷ calls) other apart =
    latest-either own call calls (with_step own calls) other (eqb call.thread own.step.thread)
    (λ mine. ne_eqb call.thread other (λ e. apart (sym e ∙ eqb-true call.thread own.step.thread mine)))
    (latest-with_step_other own calls other apart)

all_either : (P : RunCall → Type 0) (own : OwnStep) (call : RunCall) (calls rest : List RunCall) (found : Option RunCall) (test : Bool)
    → P call → All P calls → ((it : RunCall) → cond test (Some call) found ≡ Some it → P (and_step it own))
    → (((it : RunCall) → found ≡ Some it → P (and_step it own)) → All P rest)
    → All P (cond test (and_step call own ∷ calls) (call ∷ rest))
all_either P own call calls rest found true holds all next onward = All-cons P (and_step call own) calls (next call refl) all
all_either P own call calls rest found false holds all next onward = All-cons P call rest holds (onward next)

-- a step changes the call that its thread began last, and no other
pub All-with_step : (P : RunCall → Type 0) (own : OwnStep) (calls : List RunCall) → All P calls
    → ((call : RunCall) → latest own.step.thread calls ≡ Some call → P (and_step call own)) → All P (with_step own calls)
All-with_step P own [] all next = All-nil P
All-with_step P own (call ∷ calls) all next =
    all_either P own call calls (with_step own calls) (latest own.step.thread calls) (eqb call.thread own.step.thread)
    (All-head P call calls all) (All-tail P call calls all) next
    (All-with_step P own calls (All-tail P call calls all))

newest_either : (own : OwnStep) (begun call : RunCall) (calls rest : List RunCall) (found : Option RunCall) (test : Bool)
    → cond test (Some call) found ≡ Some begun → (found ≡ Some begun → IsNewestStep own rest)
    → IsNewestStep own (cond test (and_step call own ∷ calls) (call ∷ rest))
newest_either own begun call calls rest found true is onward =
    record { call = and_step call own; newer = []; older = calls; earlier = call.steps; found = refl; newest = refl }
newest_either own begun call calls rest found false is onward =
    let it = onward is in
    record {
      call = it.call;
      newer = call ∷ it.newer;
      older = it.older;
      earlier = it.earlier;
      found = ap (λ others. call ∷ others) it.found;
      newest = it.newest;
    }

-- a step of a thread with a call is the newest of that call
pub IsNewestStep-with_step : (own : OwnStep) (begun : RunCall) (calls : List RunCall) → latest own.step.thread calls ≡ Some begun
    → IsNewestStep own (with_step own calls)
IsNewestStep-with_step own begun [] is = cc
IsNewestStep-with_step own begun (call ∷ calls) is =
    newest_either own begun call calls (with_step own calls) (latest own.step.thread calls) (eqb call.thread own.step.thread) is
    (IsNewestStep-with_step own begun calls)

same_either : (own : OwnStep) (begun call : RunCall) (calls rest : List RunCall) (found : Option RunCall) (test : Bool)
    → eqb call.thread own.step.thread ≡ test → cond test (Some call) found ≡ Some begun
    → (found ≡ Some begun → latest own.step.thread rest ≡ Some (and_step begun own))
    → latest own.step.thread (cond test (and_step call own ∷ calls) (call ∷ rest)) ≡ Some (and_step begun own)
same_either own begun call calls rest found true mine is onward = rw mine (let same : call ≡ begun = cc in ap (λ it. Some (and_step it own)) same)
same_either own begun call calls rest found false mine is onward = rw mine (onward is)

-- after a step, the call that its thread began last has it
pub latest-with_step_same : (own : OwnStep) (begun : RunCall) (calls : List RunCall) → latest own.step.thread calls ≡ Some begun
    → latest own.step.thread (with_step own calls) ≡ Some (and_step begun own)
latest-with_step_same own begun [] is = cc
latest-with_step_same own begun (call ∷ calls) is =
    same_either own begun call calls (with_step own calls) (latest own.step.thread calls) (eqb call.thread own.step.thread) refl is
    (latest-with_step_same own begun calls)

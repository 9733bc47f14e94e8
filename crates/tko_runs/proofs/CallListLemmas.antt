-- Lists of calls, the newest first, and what is kept of them, the oldest first.
use Rattle.std.proofs.Common.{◌≡◌, ℕ, suc, ◌<◌, Bool, true, false, cond, eqb, List, [], ◌∷◌, ◌++◌, length, get_or, set, reverse, Option, Some, None, refl, sym, ap, ◌∙◌, subst, ⊎_elim, append_assoc, get_or-set_same, get_or-set_other}
use Rattle.std.proofs.lemmas.Bool.{cases_eq, eq-eqb, eqb-true, ne_eqb}
use Rattle.std.proofs.lemmas.List.{reverse-append, reverse-reverse, length-reverse}
use Rattle.std.proofs.Math.Seq.{get_or-append_seam, set-append_seam}
use Rattle.tko_model.specs.declared.mark.Op.{Op}
use Rattle.tko_model.specs.declared.mark.Reply.{Reply}
use Rattle.tko_model.specs.Settings.{Settings}
use Rattle.tko_runs.specs.declared.checking.point.CheckedCall.{CheckedCall}
use Rattle.tko_runs.specs.declared.run.state.ThreadEntry.{ThreadEntry}
use Rattle.tko_runs.specs.declared.run.state.ThreadEntry.TheVariants.{NotEnrolled, Idle, InCall}
use Rattle.tko_runs.specs.States.{answered}
use Rattle.tko_runs.specs.CheckStates.{AreKept, IsLatest, latest_place}
use Rattle.tko_runs.specs.Effects.{IsCallKept}
use Rattle.tko_steps.specs.Runs.{OwnStep, RunCall, and_step, begun_call, with_step}

-- Lists that are read from both ends.

reverse_split : {X : Type 0} (front back : List X) (x : X)
    → reverse (front ++ x ∷ back) ≡ reverse back ++ x ∷ reverse front
reverse_split front back x =
    reverse-append front (x ∷ back)
    ∙ (ap (λ list. list ++ reverse front) (reverse-append (x ∷ []) back)
    ∙ append_assoc (reverse back) (x ∷ []) (reverse front))

-- where the reverse of a list splits, so does the list
unreversed : {X : Type 0} (xs newer older : List X) (x : X) → reverse xs ≡ newer ++ x ∷ older
    → xs ≡ reverse older ++ x ∷ reverse newer
unreversed xs newer older x split =
    sym (reverse-reverse xs) ∙ (ap reverse split ∙ reverse_split newer older x)

pub set_reversed : {X : Type 0} (xs newer older : List X) (x y : X) (place : ℕ) → reverse xs ≡ newer ++ x ∷ older
    → place ≡ length older → reverse (set xs place y) ≡ newer ++ y ∷ older
set_reversed xs newer older x y place split at_end =
    let front : place ≡ length (reverse older) = at_end ∙ sym (length-reverse older) in
    rw (unreversed xs newer older x split, front, set-append_seam (reverse older) x (reverse newer) y, reverse_split (reverse older) (reverse newer) y, reverse-reverse newer, reverse-reverse older)
    refl

pub get_reversed : {X : Type 0} (xs newer older : List X) (x y : X) (place : ℕ) → reverse xs ≡ newer ++ x ∷ older
    → place ≡ length older → get_or xs place y ≡ x
get_reversed xs newer older x y place split at_end =
    let front : place ≡ length (reverse older) = at_end ∙ sym (length-reverse older) in
    rw (unreversed xs newer older x split, front, get_or-append_seam (reverse older) x (reverse newer) y) refl

-- What is kept.

pub length-AreKept : (s : Settings) (calls : List RunCall) (kept : List CheckedCall) → AreKept s calls kept
    → length calls ≡ length kept
length-AreKept s [] [] all = refl
length-AreKept s [] (own ∷ kept) all = absurd all
length-AreKept s (call ∷ calls) [] all = absurd all
length-AreKept s (call ∷ calls) (own ∷ kept) all = ap suc (length-AreKept s calls kept all.1)

AreKept-append : (s : Settings) (calls others : List RunCall) (kept rest : List CheckedCall) → AreKept s calls kept
    → AreKept s others rest → AreKept s (calls ++ others) (kept ++ rest)
AreKept-append s [] others [] rest all more = more
AreKept-append s [] others (own ∷ kept) rest all more = absurd all
AreKept-append s (call ∷ calls) others [] rest all more = absurd all
AreKept-append s (call ∷ calls) others (own ∷ kept) rest all more =
    (all.0, AreKept-append s calls others kept rest all.1 more)

pub AreKept-reverse : (s : Settings) (calls : List RunCall) (kept : List CheckedCall) → AreKept s calls kept
    → AreKept s (reverse calls) (reverse kept)
AreKept-reverse s [] [] all = tt
AreKept-reverse s [] (own ∷ kept) all = absurd all
AreKept-reverse s (call ∷ calls) [] all = absurd all
AreKept-reverse s (call ∷ calls) (own ∷ kept) all =
    rw (reverse-append (call ∷ []) calls, reverse-append (own ∷ []) kept)
    (AreKept-append s (reverse calls) (call ∷ []) (reverse kept) (own ∷ []) (AreKept-reverse s calls kept all.1) (all.0, tt))

-- The latest call of a thread.

-- where it stands, and what one more step of it makes of the calls
pub record HasLatest (s : Settings) (calls : List RunCall) (kept : List CheckedCall) (thread place : ℕ) : Type 0 where
  pub call : RunCall
  pub own : CheckedCall
  pub newer : List CheckedCall
  pub older : List CheckedCall
  pub split : kept ≡ newer ++ own ∷ older
  pub place_is : place ≡ length older
  pub is_kept : IsCallKept s call own
  pub next : (step : OwnStep) (now : CheckedCall) → step.step.thread ≡ thread → IsCallKept s (and_step call step) now
      → AreKept s (with_step step calls) (newer ++ now ∷ older)

has_latest_either : (s : Settings) (call : RunCall) (calls : List RunCall) (own : CheckedCall) (kept : List CheckedCall) (thread place : ℕ)
    (test : Bool) → eqb call.thread thread ≡ test → IsCallKept s call own → AreKept s calls kept
    → (latest_place thread calls ≡ Some place → HasLatest s calls kept thread place)
    → cond test (Some (length calls)) (latest_place thread calls) ≡ Some place
    → HasLatest s (call ∷ calls) (own ∷ kept) thread place
has_latest_either s call calls own kept thread place true mine keeps all others found =
    let here : length calls ≡ place = cc in
    record {
      call = call;
      own = own;
      newer = [];
      older = kept;
      split = refl;
      place_is = sym here ∙ length-AreKept s calls kept all;
      is_kept = keeps;
      next = λ step now same is. rw (eq-eqb call.thread step.step.thread (eqb-true call.thread thread mine ∙ sym same)) (is, all);
    }
has_latest_either s call calls own kept thread place false mine keeps all others found =
    let rest = others found in
    record {
      call = rest.call;
      own = rest.own;
      newer = own ∷ rest.newer;
      older = rest.older;
      split = ap (λ front. own ∷ front) rest.split;
      place_is = rest.place_is;
      is_kept = rest.is_kept;
      next = λ step now same is. rw (ap (eqb call.thread) same ∙ mine) (keeps, rest.next step now same is);
    }

pub has_latest : (s : Settings) (calls : List RunCall) (kept : List CheckedCall) (thread place : ℕ) → AreKept s calls kept
    → latest_place thread calls ≡ Some place → HasLatest s calls kept thread place
has_latest s [] kept thread place all found = cc
has_latest s (call ∷ calls) [] thread place all found = absurd all
has_latest s (call ∷ calls) (own ∷ kept) thread place all found =
    has_latest_either s call calls own kept thread place (eqb call.thread thread) refl all.0 all.1
    (has_latest s calls kept thread place all.1) found

length-with_step_either : (own : OwnStep) (call : RunCall) (calls rest : List RunCall) (test : Bool) → length rest ≡ length calls
    → length (cond test (and_step call own ∷ calls) (call ∷ rest)) ≡ length (call ∷ calls)
length-with_step_either own call calls rest true same = refl
length-with_step_either own call calls rest false same = ap suc same

length-with_step : (own : OwnStep) (calls : List RunCall) → length (with_step own calls) ≡ length calls
length-with_step own [] = refl
length-with_step own (call ∷ calls) =
    length-with_step_either own call calls (with_step own calls) (eqb call.thread own.step.thread) (length-with_step own calls)

latest_place_either : (own : OwnStep) (call : RunCall) (calls rest : List RunCall) (thread : ℕ) (test : Bool)
    → length rest ≡ length calls → latest_place thread rest ≡ latest_place thread calls
    → latest_place thread (cond test (and_step call own ∷ calls) (call ∷ rest)) ≡ latest_place thread (call ∷ calls)
latest_place_either own call calls rest thread true long same = refl
latest_place_either own call calls rest thread false long same = rw (long, same) refl

-- a step leaves the places as they were
pub latest_place-with_step : (own : OwnStep) (calls : List RunCall) (thread : ℕ)
    → latest_place thread (with_step own calls) ≡ latest_place thread calls
latest_place-with_step own [] thread = refl
latest_place-with_step own (call ∷ calls) thread =
    latest_place_either own call calls (with_step own calls) thread (eqb call.thread own.step.thread)
    (length-with_step own calls) (latest_place-with_step own calls thread)

with_step_none_either : (own : OwnStep) (call : RunCall) (calls : List RunCall) (test : Bool)
    → (latest_place own.step.thread calls ≡ None → with_step own calls ≡ calls)
    → cond test (Some (length calls)) (latest_place own.step.thread calls) ≡ None
    → cond test (and_step call own ∷ calls) (call ∷ with_step own calls) ≡ call ∷ calls
with_step_none_either own call calls true others none = cc
with_step_none_either own call calls false others none = ap (λ rest. call ∷ rest) (others none)

-- a step of a thread that began no call changes no call
pub with_step-no_call : (own : OwnStep) (calls : List RunCall) → latest_place own.step.thread calls ≡ None
    → with_step own calls ≡ calls
with_step-no_call own [] none = refl
with_step-no_call own (call ∷ calls) none =
    with_step_none_either own call calls (eqb call.thread own.step.thread) (with_step-no_call own calls) none

-- Where the threads stand.

abbrev pub AllLatest : List ThreadEntry → List RunCall → List ℕ → Type 0
AllLatest threads calls places =
    (thread : ℕ) → IsLatest (get_or threads thread NotEnrolled) (latest_place thread calls) (get_or places thread 0)

-- a thread stands elsewhere, and has the same latest call
pub AllLatest-set : (threads : List ThreadEntry) (thread : ℕ) (new : ThreadEntry) (calls others : List RunCall) (places : List ℕ)
    → thread < length threads → ((other : ℕ) → latest_place other others ≡ latest_place other calls)
    → IsLatest new (latest_place thread calls) (get_or places thread 0)
    → AllLatest threads calls places → AllLatest (set threads thread new) others places
AllLatest-set threads thread new calls others places inside same stands all other =
    ⊎_elim
    (λ (e : other ≡ thread).
    let P : ℕ → Type 0 = λ at.
    IsLatest (get_or (set threads thread new) at NotEnrolled) (latest_place at others) (get_or places at 0) in
    subst P (sym e) (rw (get_or-set_same threads thread new NotEnrolled inside, same thread) stands))
    (λ (apart : other ≡ thread → ⊥).
    rw (get_or-set_other threads thread other new NotEnrolled apart, same other) (all other))
    (cases_eq other thread)

-- a thread began a call
pub AllLatest-begun : (threads : List ThreadEntry) (thread number : ℕ) (op : Op) (server : ℕ) (new : ThreadEntry)
    (calls : List RunCall) (places : List ℕ)
    → thread < length threads → thread < length places → IsLatest new (Some (length calls)) (length calls)
    → AllLatest threads calls places
    → AllLatest (set threads thread new) (begun_call thread number op server ∷ calls) (set places thread (length calls))
AllLatest-begun threads thread number op server new calls places inside is_place stands all other =
    let call : RunCall = begun_call thread number op server in
    let now = set threads thread new in
    let moved = set places thread (length calls) in
    ⊎_elim
    (λ (e : other ≡ thread).
    let P : ℕ → Type 0 = λ at. IsLatest (get_or now at NotEnrolled) (latest_place at (call ∷ calls)) (get_or moved at 0) in
    subst P (sym e)
    (rw (get_or-set_same threads thread new NotEnrolled inside, get_or-set_same places thread (length calls) 0 is_place, eq-eqb thread thread refl) stands))
    (λ (apart : other ≡ thread → ⊥).
    rw (get_or-set_other threads thread other new NotEnrolled apart, get_or-set_other places thread other (length calls) 0 apart, ne_eqb thread other (λ e. apart (sym e)))
    (all other))
    (cases_eq other thread)

-- an answer ends a call, and changes nothing else
pub IsLatest-answered : (answer : Option Reply) (state : ThreadEntry) (found : Option ℕ) (place : ℕ)
    → IsLatest state found place → IsLatest (answered answer state) found place
IsLatest-answered None state found place is = is
IsLatest-answered (Some reply) NotEnrolled found place is = is
IsLatest-answered (Some reply) (Idle number) found place is = tt
IsLatest-answered (Some reply) (InCall number server) found place is = tt

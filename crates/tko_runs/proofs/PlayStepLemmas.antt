-- What each call of the player makes of turn was played: begins, steps, skipped turns, and how it opens.
use Rattle.std.proofs.Common.{◌≡◌, ℕ, zero, suc, ◌+◌, ◌<◌, Bool, true, false, cond, ltb, List, [], ◌∷◌, ◌++◌, length, Option, Some, None, Result, Ok, Err, replicate, refl, sym, ap, ◌∙◌, arith, append_assoc, ◌-◌, ◌↔◌, ◌≤◌, add-one}
use Rattle.std.proofs.lemmas.Bool.{le-leb}
use Rattle.std.proofs.lemmas.List.{append-nil}
use Rattle.tko_model.specs.declared.mark.Op.{Op}
use Rattle.tko_model.specs.Settings.{Settings}
use Rattle.tko_runs.specs.declared.run.event.Event.{Event}
use Rattle.tko_runs.specs.declared.run.event.Event.TheVariants as event
use Rattle.tko_runs.specs.declared.run.event.SkippedTurn.{SkippedTurn}
use Rattle.tko_runs.specs.declared.run.event.SkippedTurn.TheVariants as skipped
use Rattle.tko_model.specs.declared.layout.Layout.{Layout}
use Rattle.tko_model.specs.declared.layout.Layout.TheVariants as layout
use Rattle.tko_model.specs.Limits.{max_failures, max_limit, max_servers, max_threads, max_tries, worn}
use Rattle.tko_model.specs.Ranges.{IsWithin, first_fault_in, is_within}
use Rattle.tko_model.proofs.RangeLemmas.{are_within-all, has_groups-all}
use Rattle.tko_runs.specs.Plays.{Played, after_all_turns, after_command, after_commands, after_turn, command_turns, enrolled, enrolments, named_by, opened_play, played, played_begin, with_event, with_skip, with_skips}
use Rattle.tko_runs.specs.Plays as plays
use Rattle.tko_runs.specs.Runs.{Skip, one_by_one}
use Rattle.tko_runs.specs.declared.run.SkippedTurns.{SkippedTurns}
use Rattle.tko_model.specs.declared.mark.Reply.{Reply}
use Rattle.tko_steps.specs.declared.step.BeginFault.{BeginFault}
use Rattle.tko_steps.specs.declared.step.StepKind.{StepKind}
use Rattle.tko_steps.specs.declared.step.Place.{Place}
use Rattle.tko_steps.specs.declared.step.Word.{Word}
use Rattle.tko_steps.specs.declared.step.Stepped.TheVariants as stepped
use Rattle.tko_steps.specs.declared.phase.ThreadState.{ThreadState}
use Rattle.tko_steps.specs.declared.phase.ThreadState.TheVariants.{NotEnrolled, Idle, InCall}
use Rattle.tko_steps.specs.Core.{CoreState, after_begin, after_step, after_step_from, begin_fault, thread_at, reported_by_step, reported_from}
use Rattle.tko_steps.specs.Runs.{Begin, Step, Turn}

-- Turns in which nothing happens.

-- a thread of this core has no step to take, as the skipped turn says
abbrev pub Stalls : CoreState → ℕ → SkippedTurn → Type 0
Stalls core thread turn =
    (events : List Event) (skips : List Skip) →
    let p : Played = record { core = core; events = events; skips = skips } in
    after_turn p (Step thread) ≡ with_skip p turn

after_all-stalls : (core : CoreState) (thread : ℕ) (turn : SkippedTurn) → Stalls core thread turn → (n : ℕ)
    (events : List Event) (skips : List Skip)
    → (let p : Played = record { core = core; events = events; skips = skips } in
    after_all_turns p (replicate n (Step thread)) ≡ with_skips p turn n)
after_all-stalls core thread turn stalls zero events skips =
    ap (λ (all : List Skip). record { core = core; events = events; skips = all }) (sym (append-nil skips))
after_all-stalls core thread turn stalls (suc n) events skips =
    let skip : Skip = record { after = length events; turn = turn } in
    ap (λ p. after_all_turns p (replicate n (Step thread))) (stalls events skips)
    ∙ after_all-stalls core thread turn stalls n events (skips ++ skip ∷ [])
    ∙ ap (λ (all : List Skip). record { core = core; events = events; skips = all }) (append_assoc skips (skip ∷ []) (replicate n skip))

unmoved_from-idle : (core : CoreState) (thread : ℕ) (state : ThreadState) → reported_from core state ≡ stepped.Idle
    → after_step_from core thread state ≡ core
unmoved_from-idle core thread NotEnrolled e = cc
unmoved_from-idle core thread (Idle number) e = refl
unmoved_from-idle core thread (InCall call phase) e = cc

unmoved-idle : (core : CoreState) (thread : ℕ) (test : Bool)
    → cond test (reported_from core (thread_at core thread)) stepped.NoThread ≡ stepped.Idle
    → cond test (after_step_from core thread (thread_at core thread)) core ≡ core
unmoved-idle core thread true e = unmoved_from-idle core thread (thread_at core thread) e
unmoved-idle core thread false e = refl

unmoved_from-none : (core : CoreState) (thread : ℕ) (state : ThreadState) → reported_from core state ≡ stepped.NoThread
    → after_step_from core thread state ≡ core
unmoved_from-none core thread NotEnrolled e = cc
unmoved_from-none core thread (Idle number) e = refl
unmoved_from-none core thread (InCall call phase) e = cc

unmoved-none : (core : CoreState) (thread : ℕ) (test : Bool)
    → cond test (reported_from core (thread_at core thread)) stepped.NoThread ≡ stepped.NoThread
    → cond test (after_step_from core thread (thread_at core thread)) core ≡ core
unmoved-none core thread true e = unmoved_from-none core thread (thread_at core thread) e
unmoved-none core thread false e = refl

pub Stalls-idle : (core : CoreState) (thread : ℕ) → reported_by_step core thread ≡ stepped.Idle → Stalls core thread (skipped.Idle thread)
Stalls-idle core thread told events skips =
    let p : Played = record { core = core; events = events; skips = skips } in
    ap (λ t. record (plays.played_step p thread t) { core = after_step core thread }) told
    ∙ ap (λ (c : CoreState). record (with_skip p (skipped.Idle thread)) { core = c })
    (unmoved-idle core thread (ltb thread (length core.threads)) told)

pub Stalls-none : (core : CoreState) (thread : ℕ) → reported_by_step core thread ≡ stepped.NoThread
    → Stalls core thread (skipped.NoThread thread)
Stalls-none core thread told events skips =
    let p : Played = record { core = core; events = events; skips = skips } in
    ap (λ t. record (plays.played_step p thread t) { core = after_step core thread }) told
    ∙ ap (λ (c : CoreState). record (with_skip p (skipped.NoThread thread)) { core = c })
    (unmoved-none core thread (ltb thread (length core.threads)) told)

-- skips that are kept with how often each stands there
pub one_by_one-push : (kept : List SkippedTurns) (skip : SkippedTurns)
    → one_by_one (kept ++ skip ∷ [])
    ≡ one_by_one kept ++ replicate skip.times (record { after = skip.after; turn = skip.turn })
one_by_one-push [] skip = append-nil _
one_by_one-push (first ∷ kept) skip =
    ap (λ rest. replicate first.times (record { after = first.after; turn = first.turn }) ++ rest) (one_by_one-push kept skip)
    ∙ sym (append_assoc _ (one_by_one kept) _)

-- Begins.

-- a call that began has no fault
pub no_fault : (found : Option BeginFault) → ((fault : BeginFault) → (◌≡◌ {A = Result Unit BeginFault} (Ok tt) (Err fault)) ↔ (found ≡ Some fault))
    → found ≡ None
no_fault None is = refl
no_fault (Some fault) is = let no : ◌≡◌ {A = Result Unit BeginFault} (Ok tt) (Err fault) = (is fault).1 refl in cc

-- `p` is turn is known of the player `q` by its parts
pub after_turn-begun : (p q : Played) (thread : ℕ) (op : Op) (server : ℕ) → p ≡ q → begin_fault p.core thread server ≡ None
    → with_event (record p { core = after_begin p.core thread op server }) (event.Begin thread op server)
    ≡ after_turn q (Begin thread op server)
after_turn-begun p q thread op server is none =
    let turned : with_event (record p { core = after_begin p.core thread op server }) (event.Begin thread op server)
    ≡ after_turn p (Begin thread op server) = rw none refl in
    turned ∙ ap (λ r. after_turn r (Begin thread op server)) is

pub after_turn-refused : (p q : Played) (thread : ℕ) (op : Op) (server : ℕ) (fault : BeginFault) → p ≡ q
    → begin_fault p.core thread server ≡ Some fault
    → with_skips p (skipped.Refused thread op server fault) 1 ≡ after_turn q (Begin thread op server)
after_turn-refused p q thread op server fault is some =
    let turned : with_skips p (skipped.Refused thread op server fault) 1 ≡ after_turn p (Begin thread op server) = rw some refl in
    turned ∙ ap (λ r. after_turn r (Begin thread op server)) is

-- Steps, as they are kept.

pub after_all-idle : (p q : Played) (thread n : ℕ) → p ≡ q → reported_by_step p.core thread ≡ stepped.Idle
    → with_skips (record p { core = after_step p.core thread }) (skipped.Idle thread) n ≡ after_all_turns q (replicate n (Step thread))
after_all-idle p q thread n is told =
    ap (λ (c : CoreState). with_skips (record p { core = c }) (skipped.Idle thread) n)
    (unmoved-idle p.core thread (ltb thread (length p.core.threads)) told)
    ∙ sym (after_all-stalls p.core thread (skipped.Idle thread) (Stalls-idle p.core thread told) n p.events p.skips)
    ∙ ap (λ r. after_all_turns r (replicate n (Step thread))) is

pub after_all-none : (p q : Played) (thread n : ℕ) → p ≡ q → reported_by_step p.core thread ≡ stepped.NoThread
    → with_skips (record p { core = after_step p.core thread }) (skipped.NoThread thread) n ≡ after_all_turns q (replicate n (Step thread))
after_all-none p q thread n is told =
    ap (λ (c : CoreState). with_skips (record p { core = c }) (skipped.NoThread thread) n)
    (unmoved-none p.core thread (ltb thread (length p.core.threads)) told)
    ∙ sym (after_all-stalls p.core thread (skipped.NoThread thread) (Stalls-none p.core thread told) n p.events p.skips)
    ∙ ap (λ r. after_all_turns r (replicate n (Step thread))) is

replicate-left : {X : Type 0} (x : X) (n k : ℕ) → k < n → replicate (n - k) x ≡ x ∷ replicate (n - (k + 1)) x
replicate-left x n k low = let one : n - k ≡ suc (n - (k + 1)) = omega (arith, low) in ap (λ m. replicate m x) one

pub after_all-did : (p q : Played) (thread steps done : ℕ) → p ≡ q → done < steps
    → {kind : StepKind} {place : Place} {found left : Word} {won : Bool} {answer : Option Reply}
    → reported_by_step p.core thread ≡ stepped.Did kind place found left won answer
    → after_all_turns (with_event (record p { core = after_step p.core thread }) (event.Step thread kind place found left answer))
    (replicate (steps - (done + 1)) (Step thread))
    ≡ after_all_turns q (replicate (steps - done) (Step thread))
after_all-did p q thread steps done is low told =
    ap (λ q. after_all_turns q (replicate (steps - (done + 1)) (Step thread)))
    (sym (ap (λ t. record (plays.played_step p thread t) { core = after_step p.core thread }) told))
    ∙ ap (after_all_turns p) (sym (replicate-left (Step thread) steps done low))
    ∙ ap (λ r. after_all_turns r (replicate (steps - done) (Step thread))) is

-- Opening.

is_within-true : (low high n : ℕ) → low ≤ n → n ≤ high → is_within low high n ≡ true
is_within-true low high n above below = rw (le-leb low n above, le-leb n high below) refl

-- settings in their ranges have no fault
pub first_fault-within : (layout : Layout) (s : Settings) → IsWithin layout s → first_fault_in layout s ≡ None
unfolding first_fault_in
first_fault-within layout s is =
    rw (
      is_within-true 1 max_servers s.servers is.servers.0 is.servers.1,
      is_within-true 1 (max_threads layout) s.threads is.threads.0 is.threads.1,
      is_within-true 1 (max_failures layout) s.failures is.failures.0 is.failures.1,
      are_within-all max_limit s.limits is.limits,
      is_within-true 1 max_tries s.tries is.tries.0 is.tries.1,
      is_within-true 0 worn s.opening_stamp (omega arith) is.stamp,
      has_groups-all layout s is,
    ) refl

after_all-push : (p : Played) (turns : List Turn) (turn : Turn)
    → after_all_turns p (turns ++ turn ∷ []) ≡ after_turn (after_all_turns p turns) turn
after_all-push p [] turn = refl
after_all-push p (first ∷ turns) turn = after_all-push (after_turn p first) turns turn

pub enrolled-more : (p new : Played) (thread : ℕ) (opened : Played) → p ≡ after_all_turns opened (enrolments thread)
    → new ≡ after_all_turns p (replicate 1 (Step thread)) → new ≡ after_all_turns opened (enrolments (thread + 1))
enrolled-more p new thread opened is one =
    one
    ∙ ap (λ q. after_turn q (Step thread)) is
    ∙ sym (after_all-push opened (enrolments thread) (Step thread))
    ∙ ap (λ n. after_all_turns opened (enrolments n)) (sym (add-one thread))

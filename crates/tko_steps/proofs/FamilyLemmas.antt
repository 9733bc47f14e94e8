-- What is known of a call at each phase, whatever it is, is kept along a run: from one lemma on a thread's own step, and one on those of others.
use Rattle.std.proofs.Common.{◌≡◌, ℕ, ◌<◌, List, [], ◌∷◌, length, All, Option, Some, None, ⊎_elim, refl, sym, ap, ◌∙◌, subst, get_or-set_same, get_or-set_other}
use Rattle.std.proofs.lemmas.Bool.{cases_eq}
use Rattle.std.proofs.lemmas.List.Elements.{All-nil, All-cons}
use Rattle.tko_model.specs.declared.mark.Op.{Op}
use Rattle.tko_model.specs.declared.mark.Reply.{Reply}
use Rattle.tko_model.specs.Settings.{Settings}
use Rattle.tko_steps.specs.declared.phase.Call.{Call as CallState}
use Rattle.tko_steps.specs.declared.phase.Phase.{Phase}
use Rattle.tko_steps.specs.declared.phase.Phase.TheVariants.{Start}
use Rattle.tko_steps.specs.declared.phase.ThreadState.{ThreadState}
use Rattle.tko_steps.specs.declared.phase.ThreadState.TheVariants.{NotEnrolled, Idle, InCall}
use Rattle.tko_steps.specs.declared.table.Decision.{Decision}
use Rattle.tko_steps.specs.declared.table.Decision.TheVariants.{Goes, Answers}
use Rattle.tko_steps.specs.Runs.{Turn, RunCall, OwnStep, World, and_step, begun_call, calls_of, happens, own_step, start_world, with_step}
use Rattle.tko_steps.specs.Core.{follows, thread_at}
use Rattle.tko_steps.specs.Steps.{begun_by, decided_answer, decided_state}
use Rattle.tko_steps.proofs.CountLemmas.{get_or-replicate_same}
use Rattle.tko_steps.proofs.CallLemmas.{All-with_step, latest, latest-begun_call, latest-begun_call_other, latest-with_step_other, latest-with_step_same, with_step-none}
use Rattle.tko_steps.proofs.AlongLemmas.{along-turn}
use Rattle.tko_steps.proofs.LegalLemmas.{open_call}
use Rattle.tko_steps.proofs.OwnLemmas.{act_step, enrol_step}
use Rattle.tko_steps.proofs.WiringLemmas.{begun, stepped_from}

-- the step of a call at this phase, with its number
abbrev pub act_own : World → ℕ → CallState → Phase → OwnStep
act_own w thread call phase = own_step (act_step w.core thread call phase) w.past

module _ (s : Settings) (K : World → ℕ → CallState → List OwnStep → Phase → Type 0) (P : RunCall → Type 0) where
  -- what its own step leaves a call with, in the world after it
  abbrev pub Follows : World → ℕ → CallState → List OwnStep → OwnStep → Decision → Type 0
  Follows new thread call steps own (Goes lost phase) = K new thread (record call { lost = lost }) (own ∷ steps) phase
  Follows new thread call steps own (Answers answer) = P (and_step (open_call thread call steps) own)

  -- what is known of a call is enough while it is open
  abbrev pub IsEnough : Type 0
  IsEnough = (w : World) (thread : ℕ) (call : CallState) (steps : List OwnStep) (phase : Phase) → K w thread call steps phase
      → P (open_call thread call steps)

  -- another thread begins a call
  abbrev pub KeptAtBegin : Type 0
  KeptAtBegin = (w : World) (thread other : ℕ) (op : Op) (server : ℕ) (call : CallState) (steps : List OwnStep) (phase : Phase)
      → K w thread call steps phase → K (begun w other op server) thread call steps phase

  abbrev pub Stands : World → ℕ → ThreadState → Option RunCall → Type 0
  Stands w thread NotEnrolled found = found ≡ None
  Stands w thread (Idle number) found = Unit {0}
  Stands w thread (InCall call phase) found =
      (steps : List OwnStep) × (found ≡ Some (open_call thread call steps)) × K w thread call steps phase

  -- what holds of the world in each run
  pub record InFamily (w : World) : Type 0 where
    pub calls : All P (calls_of w.past)
    pub stand : (thread : ℕ) → Stands w thread (thread_at w.core thread) (latest thread (calls_of w.past))

  pub InFamily-start : InFamily (start_world s)
  InFamily-start =
      record {
        calls = All-nil P;
        stand = λ thread.
            let Q : ThreadState → Type 0 = λ state. Stands (start_world s) thread state None in
            subst Q (sym (get_or-replicate_same s.threads thread NotEnrolled)) refl;
      }

  -- the base is what is known of each world
  module _ (Base : World → Type 0) where
    -- a call begins
    abbrev pub Opens : Type 0
    Opens = (w : World) (thread number : ℕ) (op : Op) (server : ℕ) → Base w → thread_at w.core thread ≡ Idle number
        → K (begun w thread op server) thread (begun_by number op server) [] Start

    -- a call takes its own step
    abbrev pub Acts : Type 0
    Acts = (w : World) (thread : ℕ) (call : CallState) (steps : List OwnStep) (phase : Phase) → Base w
        → thread < length w.core.threads → thread_at w.core thread ≡ InCall call phase
        → latest thread (calls_of w.past) ≡ Some (open_call thread call steps)
        → K w thread call steps phase
        → Follows (stepped_from w thread (InCall call phase)) thread call steps (act_own w thread call phase) (follows w.core call phase)

    -- another thread takes a step
    abbrev pub KeptAtStep : Type 0
    KeptAtStep = (w : World) (thread other : ℕ) (state : ThreadState) (call : CallState) (steps : List OwnStep) (phase : Phase)
        → Base w → other < length w.core.threads → thread_at w.core other ≡ state → thread_at w.core thread ≡ InCall call phase
        → (thread ≡ other → ⊥) → K w thread call steps phase → K (stepped_from w other state) thread call steps phase

    module _ (opens : Opens) (enough : IsEnough) (acts : Acts) (at_begin : KeptAtBegin) (at_step : KeptAtStep) where
      Stands-begun : (w : World) (thread other : ℕ) (op : Op) (server : ℕ) (state : ThreadState) (found : Option RunCall)
          → Stands w thread state found → Stands (begun w other op server) thread state found
      Stands-begun w thread other op server NotEnrolled found stands = stands
      Stands-begun w thread other op server (Idle number) found stands = tt
      Stands-begun w thread other op server (InCall call phase) found (steps, is, knows) =
          (steps, is, at_begin w thread other op server call steps phase knows)

      InFamily-begun : (w : World) (thread number : ℕ) (op : Op) (server : ℕ) → Base w → InFamily w
          → thread < length w.core.threads → thread_at w.core thread ≡ Idle number → InFamily (begun w thread op server)
      InFamily-begun w thread number op server both holds inside stands =
          let new : ThreadState = InCall (begun_by number op server) Start in
          let call : RunCall = begun_call thread number op server in
          let calls = calls_of w.past in
          let after = begun w thread op server in
          let is_new : thread_at after.core thread ≡ new =
          get_or-set_same w.core.threads thread _ NotEnrolled inside ∙ rw stands refl in
          let is_call : calls_of after.past ≡ call ∷ calls = rw stands refl in
          let knows = opens w thread number op server both stands in
          let first = enough after thread (begun_by number op server) [] Start knows in
          let Q : List RunCall → Type 0 = λ all. All P all in
          record {
            calls = subst Q (sym is_call) (All-cons P call calls first holds.calls);
            stand = λ other.
                ⊎_elim
                (λ (e : other ≡ thread).
                let T : ℕ → Type 0 = λ at. Stands after at (thread_at after.core at) (latest at (calls_of after.past)) in
                let R : ThreadState → Type 0 = λ state. Stands after thread state (latest thread (calls_of after.past)) in
                let found : latest thread (calls_of after.past) ≡ Some call = ap (latest thread) is_call ∙ latest-begun_call thread number op server calls in
                subst T (sym e) (subst R (sym is_new) ([], found, knows)))
                (λ (apart : other ≡ thread → ⊥).
                let state = thread_at w.core other in
                let same : thread_at after.core other ≡ state = get_or-set_other w.core.threads thread other _ NotEnrolled apart in
                let found : latest other (calls_of after.past) ≡ latest other calls =
                ap (latest other) is_call ∙ latest-begun_call_other thread number op server calls other apart in
                let R : ThreadState → Type 0 = λ it. Stands after other it (latest other (calls_of after.past)) in
                let F : Option RunCall → Type 0 = λ it. Stands after other state it in
                subst R (sym same) (subst F (sym found) (Stands-begun w other thread op server state (latest other calls) (holds.stand other))))
                (cases_eq other thread);
          }

      Stands-stepped : (w : World) (thread other : ℕ) (by state : ThreadState) (found : Option RunCall) → Base w
          → other < length w.core.threads → thread_at w.core other ≡ by → thread_at w.core thread ≡ state → (thread ≡ other → ⊥)
          → Stands w thread state found → Stands (stepped_from w other by) thread state found
      Stands-stepped w thread other by NotEnrolled found both inside at here apart stands = stands
      Stands-stepped w thread other by (Idle number) found both inside at here apart stands = tt
      Stands-stepped w thread other by (InCall call phase) found both inside at here apart (steps, is, knows) =
          (steps, is, at_step w thread other by call steps phase both inside at here apart knows)

      InFamily-enrolled : (w : World) (thread : ℕ) → Base w → InFamily w → thread < length w.core.threads
          → thread_at w.core thread ≡ NotEnrolled → InFamily (stepped_from w thread NotEnrolled)
      InFamily-enrolled w thread both holds inside stands =
          let calls = calls_of w.past in
          let after = stepped_from w thread NotEnrolled in
          let own : OwnStep = own_step (enrol_step w.core thread) w.past in
          let none : latest thread calls ≡ None = rw stands at (holds.stand thread) in
          let same : with_step own calls ≡ calls = with_step-none own calls none in
          let Q : List RunCall → Type 0 = λ all. All P all in
          record {
            calls = subst Q (sym same) holds.calls;
            stand = λ other.
                ⊎_elim
                (λ (e : other ≡ thread).
                let is_new : thread_at after.core other ≡ Idle w.core.shared.enrolled = rw e (get_or-set_same w.core.threads thread _ NotEnrolled inside) in
                let R : ThreadState → Type 0 = λ it. Stands after other it (latest other (calls_of after.past)) in
                subst R (sym is_new) tt)
                (λ (apart : other ≡ thread → ⊥).
                let state = thread_at w.core other in
                let is_old : thread_at after.core other ≡ state = get_or-set_other w.core.threads thread other _ NotEnrolled apart in
                let found : latest other (calls_of after.past) ≡ latest other calls = ap (latest other) same in
                let R : ThreadState → Type 0 = λ it. Stands after other it (latest other (calls_of after.past)) in
                let F : Option RunCall → Type 0 = λ it. Stands after other state it in
                subst R (sym is_old) (subst F (sym found)
                (Stands-stepped w other thread NotEnrolled state (latest other calls) both inside stands refl apart (holds.stand other))))
                (cases_eq other thread);
          }

      follows-sound : (new : World) (thread : ℕ) (call : CallState) (steps : List OwnStep) (own : OwnStep) (decision : Decision)
          → own.step.answer ≡ decided_answer decision → Follows new thread call steps own decision → P (and_step (open_call thread call steps) own)
      follows-sound new thread call steps own (Goes lost phase) answer next =
          let Q : Option Reply → Type 0 = λ it. P (record {
            thread = thread;
            number = call.number;
            op = call.op;
            server = call.server;
            steps = own ∷ steps;
            answer = it;
          }) in
          subst Q (sym answer) (enough new thread (record call { lost = lost }) (own ∷ steps) phase next)
      follows-sound new thread call steps own (Answers answer) told next = next

      follows-stands : (new : World) (thread : ℕ) (call : CallState) (steps : List OwnStep) (own : OwnStep) (decision : Decision)
          → own.step.answer ≡ decided_answer decision → Follows new thread call steps own decision
          → Stands new thread (decided_state call decision) (Some (and_step (open_call thread call steps) own))
      follows-stands new thread call steps own (Goes lost phase) answer next =
          let same : and_step (open_call thread call steps) own ≡ open_call thread (record call { lost = lost }) (own ∷ steps) =
          ap (λ it. let at : RunCall = record {
            thread = thread;
            number = call.number;
            op = call.op;
            server = call.server;
            steps = own ∷ steps;
            answer = it;
          } in at) answer in
          (own ∷ steps, ap Some same, next)
      follows-stands new thread call steps own (Answers answer) told next = tt

      InFamily-act : (w : World) (thread : ℕ) (call : CallState) (phase : Phase) → Base w → InFamily w
          → thread < length w.core.threads → thread_at w.core thread ≡ InCall call phase
          → Stands w thread (InCall call phase) (latest thread (calls_of w.past))
          → InFamily (stepped_from w thread (InCall call phase))
      InFamily-act w thread call phase both holds inside stands (steps, is, knows) =
          let calls = calls_of w.past in
          let after = stepped_from w thread (InCall call phase) in
          let own = act_own w thread call phase in
          let decision = follows w.core call phase in
          let opened = open_call thread call steps in
          let next = acts w thread call steps phase both inside stands is knows in
          let sound : P (and_step opened own) = follows-sound after thread call steps own decision refl next in
          let now : latest thread (with_step own calls) ≡ Some (and_step opened own) = latest-with_step_same own opened calls is in
          let Q : RunCall → Type 0 = λ it. P (and_step it own) in
          record {
            calls = All-with_step P own calls holds.calls
                (λ it found. let same : opened ≡ it = cc (found, is) in subst Q same sound);
            stand = λ other.
                ⊎_elim
                (λ (e : other ≡ thread).
                let T : ℕ → Type 0 = λ at. Stands after at (thread_at after.core at) (latest at (calls_of after.past)) in
                let R : ThreadState → Type 0 = λ it. Stands after thread it (latest thread (calls_of after.past)) in
                let F : Option RunCall → Type 0 = λ it. Stands after thread (decided_state call decision) it in
                let is_new : thread_at after.core thread ≡ decided_state call decision =
                get_or-set_same w.core.threads thread _ NotEnrolled inside in
                subst T (sym e) (subst R (sym is_new) (subst F (sym now) (follows-stands after thread call steps own decision refl next))))
                (λ (apart : other ≡ thread → ⊥).
                let state = thread_at w.core other in
                let is_old : thread_at after.core other ≡ state = get_or-set_other w.core.threads thread other _ NotEnrolled apart in
                let found : latest other (calls_of after.past) ≡ latest other calls = latest-with_step_other own calls other apart in
                let R : ThreadState → Type 0 = λ it. Stands after other it (latest other (calls_of after.past)) in
                let F : Option RunCall → Type 0 = λ it. Stands after other state it in
                subst R (sym is_old) (subst F (sym found)
                (Stands-stepped w other thread (InCall call phase) state (latest other calls) both inside stands refl apart (holds.stand other))))
                (cases_eq other thread);
          }

      at-act : (w : World) (thread : ℕ) (call : CallState) (phase : Phase) → Base w → thread < length w.core.threads
          → thread_at w.core thread ≡ InCall call phase → InFamily w → InFamily (stepped_from w thread (InCall call phase))
      at-act w thread call phase base inside stands holds =
          let Q : ThreadState → Type 0 = λ it. Stands w thread it (latest thread (calls_of w.past)) in
          InFamily-act w thread call phase base holds inside stands (subst Q stands (holds.stand thread))

      pub InFamily-turn : (w : World) (turn : Turn) → Base w → InFamily w → InFamily (happens w turn)
      InFamily-turn w turn base holds =
          along-turn (λ it at. Base at) (λ it at. InFamily at)
          (λ it at thread number op server known inside stands on_server all. InFamily-begun at thread number op server known all inside stands)
          (λ it at thread known inside stands all. InFamily-enrolled at thread known all inside stands)
          (λ it at thread call phase known inside stands all. at-act at thread call phase known inside stands all)
          s w turn base holds

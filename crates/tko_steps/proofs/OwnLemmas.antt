-- Each thread owns exactly the servers whose marks name it, along a run.
use Rattle.std.proofs.Common.{◌≡◌, ℕ, ◌<◌, Bool, true, false, cond, eqb, ◌&&◌, List, ◌∷◌, length, get_or, set, Some, refl, sym, ap, ◌∙◌, subst, ⊎_elim, get_or-set_same, get_or-set_other, arith, ◌+◌, None}
use Rattle.std.proofs.lemmas.Bool.{and_right, cases_eq, cond-false, eq-eqb, ne_eqb}
use Rattle.tko_model.specs.declared.mark.Mark.{Mark}
use Rattle.tko_model.specs.declared.state.ServerState.{ServerState}
use Rattle.tko_model.specs.Tracker.{server_at}
use Rattle.tko_steps.specs.declared.phase.Call.{Call}
use Rattle.tko_steps.specs.declared.phase.Phase.{Phase}
use Rattle.tko_steps.specs.declared.phase.ThreadState.{ThreadState}
use Rattle.tko_steps.specs.declared.phase.ThreadState.TheVariants.{NotEnrolled, Idle, InCall}
use Rattle.tko_steps.specs.declared.step.StepKind.TheVariants as kind
use Rattle.tko_steps.specs.declared.step.Place.TheVariants as place
use Rattle.tko_steps.specs.declared.step.Word.TheVariants as word
use Rattle.tko_steps.specs.declared.table.Decision.{Decision}
use Rattle.tko_steps.specs.declared.table.Decision.TheVariants.{Goes, Answers}
use Rattle.tko_steps.specs.Core.{CoreState, abstract_of, after_act, drawn_number, follows, found_by, thread_at}
use Rattle.tko_steps.specs.Owners.{IsOwnedBy}
use Rattle.tko_steps.specs.Invariant.{IsCore}
use Rattle.tko_steps.specs.Runs.{Moment, StepTaken, Took, owns_in_past}
use Rattle.tko_steps.specs.Steps.{decided_answer, decided_state, is_done, is_server, kind_of_exchange, owns_after, place_of, seen_in, step_kind, word_after}
use Rattle.tko_steps.specs.Table.{action_of}
use Rattle.tko_steps.proofs.PhaseLemmas.{written}
use Rattle.tko_steps.proofs.PhaseStepLemmas.{knows_at}
use Rattle.tko_steps.proofs.OwnedLemmas.{others-step, own-enrol, own-step}
use Rattle.tko_steps.proofs.ThreadLemmas.{number-inside, number-once}

-- each thread owns what names it
abbrev pub AreOwned : List Moment → List ServerState → List ThreadState → Type 0
AreOwned past servers threads =
    (thread : ℕ) → IsOwnedBy servers (drawn_number (get_or threads thread NotEnrolled)) (owns_in_past past thread)

-- one thread has another state
AreOwned-set : (past new_past : List Moment) (servers new_servers : List ServerState) (threads : List ThreadState) (thread : ℕ) (new : ThreadState)
    → thread < length threads
    → IsOwnedBy new_servers (drawn_number new) (owns_in_past new_past thread)
    → ((other : ℕ) → (other ≡ thread → ⊥) → IsOwnedBy new_servers (drawn_number (get_or threads other NotEnrolled)) (owns_in_past new_past other))
    → AreOwned new_past new_servers (set threads thread new)
AreOwned-set past new_past servers new_servers threads thread new inside mine others other =
    let P : ThreadState → Type 0 = λ state. IsOwnedBy new_servers (drawn_number state) (owns_in_past new_past other) in
    ⊎_elim
    (λ (here : other ≡ thread).
    let now : get_or (set threads thread new) other NotEnrolled ≡ new = rw here (get_or-set_same threads thread new NotEnrolled inside) in
    subst P (sym now) (rw here mine))
    (λ (apart : other ≡ thread → ⊥).
    subst P (sym (get_or-set_other threads thread other new NotEnrolled apart)) (others other apart))
    (cases_eq other thread)

pub number-after-step : (call : Call) (decision : Decision) → drawn_number (decided_state call decision) ≡ Some call.number
number-after-step call (Goes lost phase) = refl
number-after-step call (Answers answer) = refl

-- the step of a call at this phase
abbrev pub act_step : CoreState → ℕ → Call → Phase → StepTaken
act_step core thread call phase =
    let act = action_of call.number phase in
    let at = place_of core.settings call.server act in
    record {
      thread = thread;
      kind = step_kind act;
      place = at;
      found = found_by core call phase;
      left = word_after act (found_by core call phase);
      won = is_done (seen_in act (found_by core call phase));
      answer = decided_answer (follows core call phase);
      before = abstract_of core;
      after = abstract_of (after_act core thread call phase);
    }

-- an enrolment, with what it reports
abbrev pub enrol_step : CoreState → ℕ → StepTaken
enrol_step core thread =
    record {
      thread = thread;
      kind = kind.Enrol;
      place = place.Enrolment;
      found = word.Enrolled core.shared.enrolled;
      left = word.Enrolled (core.shared.enrolled + 1);
      won = true;
      answer = None;
      before = abstract_of core;
      after = abstract_of core;
    }

-- a step of the kind exchange, by whether it is won
abbrev pub exchange_step : CoreState → ℕ → Call → ServerState → Mark → (Bool → Decision) → Bool → StepTaken
exchange_step core thread call found mark decide won =
    let now = server_at (abstract_of core) call.server in
    let servers = cond won (set (abstract_of core) call.server (written found mark)) (abstract_of core) in
    record {
      thread = thread;
      kind = kind_of_exchange found.mark mark;
      place = place.Server call.server;
      found = word.Server now;
      left = word.Server (cond won (written found mark) now);
      won = won;
      answer = decided_answer (decide won);
      before = abstract_of core;
      after = servers;
    }

and-here : {X : Type 0} (one both : Bool) (x y : X) → both ≡ true → cond (one && both) x y ≡ cond one x y
and-here true both x y e = rw e refl
and-here false both x y e = refl

-- a step of the thread at this place leaves what another thread owns
pub owns-apart : (past : List Moment) (step : StepTaken) (other server : ℕ) → (other ≡ step.thread → ⊥)
    → owns_in_past (Took step ∷ past) other server ≡ owns_in_past past other server
owns-apart past step other server apart =
    cond-false (is_server server step.place && eqb step.thread other) (owns_after step.kind step.won step.left (owns_in_past past other server)) (owns_in_past past other server)
    (and_right (is_server server step.place) (eqb step.thread other) (ne_eqb step.thread other (λ e. apart (sym e))))

pub AreOwned-act : (core : CoreState) (past : List Moment) (thread : ℕ) (call : Call) → IsCore core → thread < length core.threads
    → AreOwned past (abstract_of core) core.threads → (phase : Phase) → thread_at core thread ≡ InCall call phase
    → (let new = after_act core thread call phase in AreOwned (Took (act_step core thread call phase) ∷ past) (abstract_of new) new.threads)
AreOwned-act core past thread call is inside owned phase stands =
    let step = act_step core thread call phase in
    let state = decided_state call (follows core call phase) in
    let new = after_act core thread call phase in
    let knows = knows_at core thread call is inside phase stands in
    let drawn : drawn_number (thread_at core thread) ≡ Some call.number = ap drawn_number stands in
    let named = number-after-step call (follows core call phase) in
    let was : IsOwnedBy (abstract_of core) (Some call.number) (owns_in_past past thread) = subst (λ number. IsOwnedBy (abstract_of core) number (owns_in_past past thread)) drawn (owned thread) in
    let mine : IsOwnedBy (abstract_of new) (Some call.number) (owns_in_past (Took step ∷ past) thread) = λ server.
    and-here (is_server server step.place) (eqb thread thread) (owns_after step.kind step.won step.left (owns_in_past past thread server)) (owns_in_past past thread server) (eq-eqb thread thread refl)
    ∙ own-step core.settings core.shared call phase knows (owns_in_past past thread) was server in
    AreOwned-set past (Took step ∷ past) (abstract_of core) (abstract_of new) core.threads thread state inside
    (subst (λ number. IsOwnedBy (abstract_of new) number (owns_in_past (Took step ∷ past) thread)) (sym named) mine)
    (λ other apart server.
    owns-apart past step other server apart
    ∙ others-step core.settings core.shared call phase knows (drawn_number (thread_at core other)) (owns_in_past past other)
    (λ same.
    let there = number-inside core.threads other call.number same in
    apart (number-once core.threads core.shared.enrolled thread other call.number is.numbers inside there drawn same))
    (owned other) server)

pub AreOwned-enrolled : (core : CoreState) (past : List Moment) (thread : ℕ) → IsCore core → thread < length core.threads
    → thread_at core thread ≡ NotEnrolled → AreOwned past (abstract_of core) core.threads
    → AreOwned past (abstract_of core) (set core.threads thread (Idle core.shared.enrolled))
AreOwned-enrolled core past thread is inside stands owned =
    let was = subst (λ number. IsOwnedBy (abstract_of core) number (owns_in_past past thread)) (ap drawn_number stands) (owned thread) in
    AreOwned-set past past (abstract_of core) (abstract_of core) core.threads thread (Idle core.shared.enrolled) inside
    (own-enrol (abstract_of core) core.shared.enrolled (owns_in_past past thread)
    (λ server theirs. let below = is.owners server core.shared.enrolled theirs in omega arith) was)
    (λ other apart. owned other)

pub AreOwned-begun : (core : CoreState) (past : List Moment) (thread number : ℕ) (new : ThreadState) → thread < length core.threads
    → thread_at core thread ≡ Idle number → drawn_number new ≡ Some number → AreOwned past (abstract_of core) core.threads
    → AreOwned past (abstract_of core) (set core.threads thread new)
AreOwned-begun core past thread number new inside stands drawn owned =
    AreOwned-set past past (abstract_of core) (abstract_of core) core.threads thread new inside
    (subst (λ it. IsOwnedBy (abstract_of core) it (owns_in_past past thread)) (ap drawn_number stands ∙ sym drawn) (owned thread))
    (λ other apart. owned other)

-- Each call is under the number that its thread drew, along a run.
use Rattle.std.proofs.Common.{◌≡◌, ℕ, ◌<◌, List, ◌∷◌, length, get_or, set, All, Some, ⊎_elim, refl, sym, ap, ◌∙◌, subst, get_or-set_same, get_or-set_other}
use Rattle.std.proofs.lemmas.Bool.{cases_eq}
use Rattle.std.proofs.lemmas.List.Elements.{All-nil, All-cons, All-weaker}
use Rattle.tko_model.specs.declared.mark.Op.{Op}
use Rattle.tko_model.specs.Settings.{Settings}
use Rattle.tko_steps.specs.declared.phase.Call.{Call as CallState}
use Rattle.tko_steps.specs.declared.phase.Phase.{Phase}
use Rattle.tko_steps.specs.declared.phase.Phase.TheVariants.{Start}
use Rattle.tko_steps.specs.declared.phase.ThreadState.{ThreadState}
use Rattle.tko_steps.specs.declared.phase.ThreadState.TheVariants.{NotEnrolled, Idle, InCall}
use Rattle.tko_steps.specs.Runs.{InEveryRun, OwnStep, RunCall, World, and_step, begun_call, calls_of, own_step, start_world, with_step}
use Rattle.tko_steps.specs.Core.{drawn_number, follows, thread_at}
use Rattle.tko_steps.specs.Steps.{begun_by, decided_state}
use Rattle.tko_steps.specs.Legal.{IsUnderNumber}
use Rattle.tko_steps.proofs.CallLemmas.{All-with_step, with_step-none}
use Rattle.tko_steps.proofs.EveryTurnLemmas.{HoldsBoth, along}
use Rattle.tko_steps.proofs.LegalLemmas.{open_call}
use Rattle.tko_steps.proofs.OwnLemmas.{act_step, enrol_step, number-after-step}
use Rattle.tko_steps.proofs.WiringLemmas.{begun, stepped_from}

-- the same, of the threads alone
abbrev Named : List ThreadState → RunCall → Type 0
Named threads call = drawn_number (get_or threads call.thread NotEnrolled) ≡ Some call.number

-- one thread has another state, with the number that it had if it had one
named-set : (threads : List ThreadState) (thread : ℕ) (old new : ThreadState) (calls : List RunCall) → thread < length threads
    → get_or threads thread NotEnrolled ≡ old → ((number : ℕ) → drawn_number old ≡ Some number → drawn_number new ≡ Some number)
    → All (Named threads) calls → All (Named (set threads thread new)) calls
named-set threads thread old new calls inside stands keeps all =
    All-weaker (Named threads) (Named (set threads thread new))
    (λ call under. ⊎_elim
    (λ (e : call.thread ≡ thread).
    let was : drawn_number old ≡ Some call.number = sym (ap (λ at. drawn_number (get_or threads at NotEnrolled)) e ∙ ap drawn_number stands) ∙ under in
    rw (e, get_or-set_same threads thread new NotEnrolled inside) (keeps call.number was))
    (λ (apart : call.thread ≡ thread → ⊥).
    rw (get_or-set_other threads thread call.thread new NotEnrolled apart) under)
    (cases_eq call.thread thread))
    calls all

abbrev Numbers : World → Type 0
Numbers w = All (IsUnderNumber w.core) (calls_of w.past)

Numbers-begun : (w : World) (thread number : ℕ) (op : Op) (server : ℕ) → thread < length w.core.threads → thread_at w.core thread ≡ Idle number
    → Numbers w → Numbers (begun w thread op server)
Numbers-begun w thread number op server inside stands numbers =
    let new : ThreadState = InCall (begun_by number op server) Start in
    let call : RunCall = begun_call thread number op server in
    let calls = calls_of w.past in
    let threads = w.core.threads in
    let after = begun w thread op server in
    let is_call : calls_of after.past ≡ call ∷ calls = rw stands refl in
    let is_set : after.core.threads ≡ set threads thread new = rw stands refl in
    let P : List RunCall → Type 0 = λ all. All (Named (set threads thread new)) all in
    let Q : List ThreadState → Type 0 = λ all. All (Named all) (calls_of after.past) in
    subst Q (sym is_set)
    (subst P (sym is_call)
    (All-cons (Named (set threads thread new)) call calls (ap drawn_number (get_or-set_same threads thread new NotEnrolled inside))
    (named-set threads thread (Idle number) new calls inside stands (λ n e. e) numbers)))

Numbers-enrolled : (s : Settings) (w : World) (thread : ℕ) → HoldsBoth s w → thread < length w.core.threads → thread_at w.core thread ≡ NotEnrolled
    → Numbers w → Numbers (stepped_from w thread NotEnrolled)
Numbers-enrolled s w thread both inside stands numbers =
    let calls = calls_of w.past in
    let new : ThreadState = Idle w.core.shared.enrolled in
    let own : OwnStep = own_step (enrol_step w.core thread) w.past in
    let same : with_step own calls ≡ calls = with_step-none own calls (rw stands at (both.1.stand thread)) in
    let P : List RunCall → Type 0 = λ all. All (Named (set w.core.threads thread new)) all in
    subst P (sym same) (named-set w.core.threads thread NotEnrolled new calls inside stands (λ n e. cc) numbers)

Numbers-act : (s : Settings) (w : World) (thread : ℕ) (call : CallState) (phase : Phase) → HoldsBoth s w → thread < length w.core.threads
    → thread_at w.core thread ≡ InCall call phase → Numbers w → Numbers (stepped_from w thread (InCall call phase))
Numbers-act s w thread call phase both inside stands numbers =
    let calls = calls_of w.past in
    let new = decided_state call (follows w.core call phase) in
    let threads = w.core.threads in
    let own : OwnStep = own_step (act_step w.core thread call phase) w.past in
    let named = number-after-step call (follows w.core call phase) in
    let mine = rw stands at (both.1.stand thread) in
    let opened = open_call thread call mine.0 in
    let P : RunCall → Type 0 = λ it. Named (set threads thread new) (and_step it own) in
    All-with_step (Named (set threads thread new)) own calls
    (named-set threads thread (InCall call phase) new calls inside stands (λ n e. named ∙ e) numbers)
    (λ it found. let same : opened ≡ it = cc (found, mine.1) in
    subst P same (ap drawn_number (get_or-set_same threads thread new NotEnrolled inside) ∙ named))

pub Numbers-run : InEveryRun (λ s w. All (IsUnderNumber w.core) (calls_of w.past))
Numbers-run =
    along (λ s w. Numbers w)
    (λ s ranges. All-nil (IsUnderNumber (start_world s).core))
    (λ s w thread number op server both inside stands on_server numbers. Numbers-begun w thread number op server inside stands numbers)
    Numbers-enrolled
    Numbers-act

-- How a call leaves its session: whom it awaits, and what it is at.
use Rattle.std.proofs.Common.{◌≡◌, ℕ, List, Some, None, Result, Ok, Err, refl, sym, ap, subst, ◌∙◌}
use Rattle.std.specs.Prelude.{IfOk, OnOk}
use Rattle.tko_bytes.specs.declared.memory.NoMemory.{NoMemory}
use Rattle.tko_links.specs.declared.links.Outcome.{Outcome}
use Rattle.tko_pools.specs.Configs.{Configuration}
use Rattle.tko_route.specs.Calls.{RoutedCall}
use Rattle.tko_route.specs.Routing.{Reached}
use Rattle.tko_route.specs.declared.attempt.Attempt.{Attempt}
use Rattle.tko_route.specs.declared.routing.Stage.{Stage}
use Rattle.tko_text.specs.declared.fault.TextFault.{TextFault}
use Rattle.tko_text.specs.declared.request.Request.{Request}
use Rattle.tko_reply.specs.Asking.{Course, Goes}
use Rattle.tko_reply.specs.Sends.{IsSent}
use Rattle.tko_reply.specs.Standing.{SentKey}
use Rattle.tko_reply.specs.declared.asking.OneKey.{OneKey}
use Rattle.tko_session.specs.Acts.{phase_after, progress_phase}
use Rattle.tko_session.specs.Awaiting.{awaited_in}
use Rattle.tko_session.specs.Driven.{KeyBegun, KeyDropped, OutcomeTaken, WasDroppedFrom, WasDropped}
use Rattle.tko_session.specs.Driven.{WentOn, WentOnFrom, step_of, went, work_of}
use Rattle.tko_session.specs.SessionState.{SessionState, progress_after}
use Rattle.tko_session.specs.Working.{Work}
use Rattle.tko_session.specs.declared.step.Progress.{Progress}
use Rattle.tko_session.specs.declared.step.Step.{Step}
use Rattle.tko_route.specs.declared.routing.Stage.TheVariants as stage
use Rattle.tko_session.specs.Driven as driven
use Rattle.tko_session.specs.Working as work
use Rattle.tko_session.specs.declared.step.Progress.TheVariants as progress
use Rattle.tko_session.specs.declared.step.Step.TheVariants as step
use Rattle.tko_client.specs.declared.calls.Went.{Went}
use Rattle.tko_client.specs.Answerings.{IsOwn}
use Rattle.tko_client.specs.Steps.{BeganAt, IsOfSession, StandsAfter, WentReading, phase_of}
use Rattle.tko_client.specs.Steps.{server_asked_in, went_from, went_of}

phase_of_progress : (at : Progress) → progress_phase at ≡ phase_of (went_of at)
phase_of_progress progress.More = refl
phase_of_progress progress.NeedsInput = refl
phase_of_progress progress.Quit = refl
phase_of_progress progress.LineTooLong = refl

-- how a client stands after a call that said this
pub phase_same : (said : Step) → phase_after said ≡ phase_of (went_from said)
phase_same step.Began = refl
phase_same (step.Asks clear) = refl
phase_same (step.Tried trail) = refl
phase_same (step.Refused fault) = phase_of_progress (progress_after fault)
phase_same (step.At at) = phase_of_progress at

none_asked : (at : Progress) → server_asked_in (went_of at) ≡ None
none_asked progress.More = refl
none_asked progress.NeedsInput = refl
none_asked progress.Quit = refl
none_asked progress.LineTooLong = refl

-- a call that said how far its session is asks nobody
at_asks : {said : Step} (at : Progress) → said ≡ step.At at
    → server_asked_in (went_from said) ≡ None
at_asks at is = ap (λ s. server_asked_in (went_from s)) is ∙ none_asked at

refused_asks : {said : Step} (fault : TextFault) → said ≡ step.Refused fault
    → server_asked_in (went_from said) ≡ None
refused_asks fault is =
    ap (λ s. server_asked_in (went_from s)) is ∙ none_asked (progress_after fault)

-- where a send is out, the permission names its server
abbrev pub NamesAt : Stage → Type 0
NamesAt (stage.Away clear awaited) = awaited.server ≡ clear
NamesAt (stage.Done trail) = Unit {0}

pub reached_names : (at : Stage) (targets : List ℕ) (form : ℕ → Request) (calls : List RoutedCall)
    → Reached targets form calls at → NamesAt at
reached_names (stage.Away clear awaited) targets form calls (out, names, found) = sym names
reached_names (stage.Done trail) targets form calls reached = tt

pub goes_names : {course : Course} {calls : List RoutedCall} {outbox outbox' : List ℕ} {at : Stage}
    {one : OneKey} → Goes course calls outbox at one outbox' → NamesAt at
goes_names {course} {calls} {at = at} goes =
    reached_names at course.targets course.form calls goes.reached

names_awaits : (at : Stage) (one : OneKey) → NamesAt at
    → awaited_in (work_of at one) ≡ server_asked_in (went_from (step_of at))
names_awaits (stage.Away clear awaited) one names = ap Some names
names_awaits (stage.Done trail) one names = refl

stage_began : (at : Stage) (w : Work) → BeganAt (step_of at) w
stage_began (stage.Away clear awaited) w = tt
stage_began (stage.Done trail) w = tt

of_progress : (at : Progress) → IsOfSession (went_of at)
of_progress progress.More = tt
of_progress progress.NeedsInput = tt
of_progress progress.Quit = tt
of_progress progress.LineTooLong = tt

of_session : (said : Step) → IsOfSession (went_from said)
of_session step.Began = tt
of_session (step.Asks clear) = tt
of_session (step.Tried trail) = tt
of_session (step.Refused fault) = of_progress (progress_after fault)
of_session (step.At at) = of_progress at

own_stage : (at : Stage) (one : OneKey) → IsOwn (work_of at one)
own_stage (stage.Away clear awaited) one = tt
own_stage (stage.Done trail) one = tt

-- a call that said this leaves the session so
abbrev pub LeavesAt : Step → Work → Type 0
LeavesAt said at = (awaited_in at ≡ server_asked_in (went_from said)) × BeganAt said at × IsOwn at

-- the session is at no request, or as before
said_at : (said : Step) (w : Work) (at : Progress) → said ≡ step.At at → w ≡ work.Between
    → LeavesAt said w
said_at said w at is none = (
  ap awaited_in none ∙ sym (at_asks at is),
  subst (λ s. BeganAt s w) (sym is) tt,
  subst IsOwn (sym none) tt,
)

-- or it refused a line there
said_refused : (said : Step) (w : Work) (fault : TextFault) → said ≡ step.Refused fault
    → w ≡ work.Between → LeavesAt said w
said_refused said w fault is none = (
  ap awaited_in none ∙ sym (refused_asks fault is),
  subst (λ s. BeganAt s w) (sym is) tt,
  subst IsOwn (sym none) tt,
)

module _ {config : Configuration} where
  key_leaves : {one : OneKey} {old : SessionState} {calls : List RoutedCall} {said : Step}
      {new : SessionState} → KeyBegun config one old calls said new → LeavesAt said new.work
  key_leaves {said = said} {new} is =
      let to = ap (λ (s : SessionState). s.work) is.state in (
        ap awaited_in to ∙ names_awaits is.at is.key (goes_names is.goes)
            ∙ ap (λ s. server_asked_in (went_from s)) (sym is.says),
        subst (λ s. BeganAt s new.work) (sym is.says) (stage_began is.at new.work),
        subst IsOwn (sym to) (own_stage is.at is.key),
      )

  key_lost : {one : OneKey} {old : SessionState} {calls : List RoutedCall} {attempts : List Attempt}
      {new : SessionState} → KeyDropped config one old calls attempts new → new.work ≡ work.Between
  key_lost is = ap (λ (s : SessionState). s.work) is.state

module _ (config : Configuration) where
  -- whom the session awaits once it went on
  leaves_from : (at : Work) (old : SessionState) (calls : List RoutedCall) (said : Step)
      (new : SessionState) → old.work ≡ at → WentOnFrom config at old calls said new
      → LeavesAt said new.work
  leaves_from work.Between old calls said new is (none, driven.none needs says same) =
      said_at said new.work progress.NeedsInput says (ap (λ (s : SessionState). s.work) same ∙ is)
  leaves_from work.Between old calls said new is (none, driven.refused fault emits says same) =
      said_refused said new.work fault says (ap (λ (s : SessionState). s.work) same ∙ is)
  leaves_from work.Between old calls said new is (none, driven.asked it emits says same) =
      let to = ap (λ (s : SessionState). s.work) same in (
        ap awaited_in to ∙ ap (λ s. server_asked_in (went_from s)) (sym says),
        subst (λ s. BeganAt s new.work) (sym says)
            (subst (λ w. BeganAt step.Began w) (sym to) refl),
        subst IsOwn (sym to) tt,
      )
  leaves_from (work.Read one) old calls said new is
      (driven.itself text looks answers are says same) =
      said_at said new.work _ says (ap (λ (s : SessionState). s.work) same)
  leaves_from (work.Read one) old calls said new is (driven.by_key other first begun) =
      key_leaves begun
  leaves_from (work.Awaits it) old calls said new is never = absurd never
  leaves_from work.HandedOver old calls said new is never = absurd never
  leaves_from (work.Ended one) old calls said new is (driven.over continues none says same) =
      said_at said new.work progress.More says (ap (λ (s : SessionState). s.work) same)
  leaves_from (work.Ended one) old calls said new is (driven.next other continues begun) =
      key_leaves begun

  -- where memory ran out, no request is under way
  went_lost : (at : Work) (old : SessionState) (calls : List RoutedCall) (attempts : List Attempt)
      (new : SessionState) → old.work ≡ at
      → WasDroppedFrom config at old calls attempts new → new.work ≡ work.Between
  went_lost work.Between old calls attempts new is (none, unmarked, read) =
      ap (λ (s : SessionState). s.work) read.only_read ∙ is
  went_lost (work.Read one) old calls attempts new is (driven.unkeyed cut none same) =
      ap (λ (s : SessionState). s.work) same
  went_lost (work.Read one) old calls attempts new is (driven.at_key other first lost) =
      key_lost lost
  went_lost (work.Awaits it) old calls attempts new is never = absurd never
  went_lost work.HandedOver old calls attempts new is never = absurd never
  went_lost (work.Ended one) old calls attempts new is (driven.unpassed joined none unmarked same) =
      ap (λ (s : SessionState). s.work) same
  went_lost (work.Ended one) old calls attempts new is (driven.at_next other continues lost) =
      key_lost lost

module _ (config : Configuration) (old : SessionState) (said : Step) (new : SessionState) where
  pub went_leaves : (calls : List RoutedCall) → WentOn config old calls said new
      → LeavesAt said new.work
  went_leaves calls on = leaves_from config old.work old calls said new refl on

  pub took_leaves : (it : SentKey) (outcome : Outcome) (calls : List RoutedCall)
      → IsSent config old.targets it → OutcomeTaken config it outcome old calls said new
      → LeavesAt said new.work
  took_leaves it outcome calls sent is =
      let to = ap (λ (s : SessionState). s.work) is.state in (
        ap awaited_in to ∙ names_awaits is.at is.key
            (goes_names (is.goes sent.original sent.calls sent.form sent.found))
            ∙ ap (λ s. server_asked_in (went_from s)) (sym is.says),
        subst (λ s. BeganAt s new.work) (sym is.says) (stage_began is.at new.work),
        subst IsOwn (sym to) (own_stage is.at is.key),
      )

pub lost_between : (config : Configuration) (old : SessionState) (calls : List RoutedCall)
    (attempts : List Attempt) (new : SessionState) → WasDropped config old calls attempts new
    → new.work ≡ work.Between
lost_between config old calls attempts new lost =
    went_lost config old.work old calls attempts new refl lost

-- how the session stands after a call, if nothing else was to be recorded
pub stands_on : (said : Step) (mid now : SessionState) (result : Result Went NoMemory)
    → LeavesAt said mid.work → WentReading (went_from said) mid.reading
    → IfOk result (λ went. went ≡ went_from said) → OnOk result (now ≡ mid)
    → IfOk result (λ went. StandsAfter went now)
stands_on said mid now (Ok got) leaves reads is same =
    subst (λ w. StandsAfter w now) (sym is)
    (subst (StandsAfter (went_from said)) (sym same) (record {
      asks = leaves.0;
      own = leaves.2;
      goes = of_session said;
      reading = reads;
    }))
stands_on said mid now (Err fault) leaves reads is same = tt

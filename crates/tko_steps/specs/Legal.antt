-- Legal calls: each answered call takes effect at one of its own steps, its
-- linearization point, as the sequential tracker would do it there. Only abstract states and own
-- steps are spoken of.
use Rattle.std.specs.Prelude.{◌≡◌, ◌≢◌, List, [], ◌∷◌, ◌++◌, ◌⊎◌, All, Some, None}
use Rattle.tko_model.specs.declared.mark.Reply.{Reply}
use Rattle.tko_model.specs.declared.mark.Reply.TheVariants.{Contended, Full, Worn}
use Rattle.tko_model.specs.Settings.{Settings}
use Rattle.tko_model.specs.declared.state.ServerState.{ServerState}
use Rattle.tko_model.specs.Groups.{limit_at}
use Rattle.tko_model.specs.Tracker.{Tracker, after, reply_of, softs_beside}
use Rattle.tko_steps.specs.Core.{CoreState, drawn_number, thread_at}
use Rattle.tko_steps.specs.Owners.{IsOwner}
use Rattle.tko_steps.specs.Runs.{Began, Moment, OwnStep, RunCall, StepTaken, Took, calls_of, own_step}

-- the sequential tracker in this abstract state
abbrev pub tracker_in : Settings → List ServerState → Tracker
tracker_in s servers = record { settings = s; servers = servers }

-- the call takes effect at this step: from the state before it, the sequential tracker gives this
-- reply and the state after it
pub record TakesEffect (s : Settings) (call : RunCall) (answer : Reply) (step : StepTaken) : Type 0
  where
    pub reply : reply_of (tracker_in s step.before) call.number call.op call.server ≡ answer
    pub change :
        (after (tracker_in s step.before) call.number call.op call.server).servers ≡ step.after

-- a step that does not change the abstract state
abbrev pub ChangesNothing : OwnStep → Type 0
ChangesNothing own = own.step.after ≡ own.step.before

-- the call takes effect with this reply at this step of its own, and its other steps change nothing
pub record IsLegalAt (s : Settings) (call : RunCall) (reply : Reply) (own : OwnStep) : Type 0 where
  pub newer : List OwnStep
  pub older : List OwnStep
  pub steps : call.steps ≡ newer ++ own ∷ older
  pub effect : TakesEffect s call reply own.step
  pub others : All ChangesNothing (newer ++ older)

-- a call is legal
pub record IsLegal (s : Settings) (call : RunCall) : Type 0 where
  -- an answered call is legal at one of its own steps
  pub answered : (reply : Reply) → call.answer ≡ Some reply → reply ≢ Contended →
      (own : OwnStep) × IsLegalAt s call reply own
  -- a call that lost every try changed nothing
  pub contended : call.answer ≡ Some Contended → All ChangesNothing call.steps
  -- an open call changed nothing, or took effect and is yet to be answered
  pub open_yet : call.answer ≡ None →
      All ChangesNothing call.steps
      ⊎ ((reply : Reply) × (own : OwnStep) × IsLegalAt s call reply own)

-- at most one of these steps changes the abstract state
abbrev pub ChangesAtMostOnce : List OwnStep → Type 0
ChangesAtMostOnce [] = Unit {0}
ChangesAtMostOnce (own ∷ older) =
    All ChangesNothing older ⊎ (ChangesNothing own × ChangesAtMostOnce older)

-- the call is legal with the reply Full at a step before which there are as many soft marks in the
-- group of its server as the group's limit allows
pub record IsFullAt (s : Settings) (call : RunCall) : Type 0 where
  pub own : OwnStep
  pub legal : IsLegalAt s call Full own
  pub limit : softs_beside s call.server own.step.before ≡ limit_at s call.server

-- a call is answered Full only at the limit
abbrev pub IsFullAtLimit : Settings → RunCall → Type 0
IsFullAtLimit s call = call.answer ≡ Some Full → IsFullAt s call

-- a thread that finds its own mark on the server is not answered that the server is worn, or that
-- it lost every try
abbrev pub IsOwnersAnswer : RunCall → Type 0
IsOwnersAnswer call =
    All
    (λ own. IsOwner own.step.before call.number call.server →
    (call.answer ≢ Some Worn) × (call.answer ≢ Some Contended))
    call.steps

-- the call is under the number that its thread drew
abbrev pub IsUnderNumber : CoreState → RunCall → Type 0
IsUnderNumber core call = drawn_number (thread_at core call.thread) ≡ Some call.number

-- The abstract states of a run.

-- the steps of this past, the newest first, lead from the first abstract state to the last, each
-- from where the one before it ended
abbrev pub IsChain : List ServerState → List Moment → List ServerState → Type 0
IsChain first [] last = last ≡ first
IsChain first (Began thread number op server ∷ past) last = IsChain first past last
IsChain first (Took step ∷ past) last = (step.after ≡ last) × IsChain first past step.before

-- one of these calls has this step as the newest of its own
pub record IsNewestStep (own : OwnStep) (calls : List RunCall) : Type 0 where
  pub call : RunCall
  pub newer : List RunCall
  pub older : List RunCall
  pub earlier : List OwnStep
  pub found : calls ≡ newer ++ call ∷ older
  pub newest : call.steps ≡ own ∷ earlier

-- each step of this past that changes the abstract state is an own step of a call
abbrev pub ChangesAreOwn : List Moment → Type 0
ChangesAreOwn [] = Unit {0}
ChangesAreOwn (Began thread number op server ∷ past) = ChangesAreOwn past
ChangesAreOwn (Took step ∷ past) =
    let own : OwnStep = own_step step past in
    (ChangesNothing own ⊎ IsNewestStep own (calls_of (Took step ∷ past))) × ChangesAreOwn past

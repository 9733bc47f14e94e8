-- What the check of a run keeps of the events so far, and what it means.
use Rattle.std.specs.Prelude.{◌≡◌, ◌↔◌, ℕ, ◌+◌, ◌<◌, ◌==◌, if◌then◌else◌, true, List, [], ◌∷◌, ◌++◌, length, get_or, slice_set, reverse, All, Option, Some, None}
use Rattle.tko_model.specs.declared.mark.Mark.{Mark}
use Rattle.tko_model.specs.declared.mark.Op.{Op}
use Rattle.tko_model.specs.declared.mark.Reply.{Reply}
use Rattle.tko_model.specs.Settings.{Settings}
use Rattle.tko_model.specs.declared.state.ServerState.{ServerState}
use Rattle.tko_model.specs.declared.transition.Transition.{Transition}
use Rattle.tko_model.specs.Ranges.{IsWithinRanges}
use Rattle.tko_model.specs.Tracker.{changed, transition_on}
use Rattle.tko_runs.specs.declared.checking.calls.CheckedCalls.{CheckedCalls}
use Rattle.tko_runs.specs.declared.checking.RunFault.{RunFault}
use Rattle.tko_runs.specs.declared.checking.RunFault.TheVariants as fault
use Rattle.tko_runs.specs.declared.checking.state.CheckState.{CheckState}
use Rattle.tko_runs.specs.declared.run.event.Event.{Event}
use Rattle.tko_runs.specs.declared.checking.point.CheckedCall.{CheckedCall}
use Rattle.tko_runs.specs.declared.checking.effect.Effect.{Effect}
use Rattle.tko_runs.specs.declared.checking.order.Point.{Point}
use Rattle.tko_runs.specs.declared.run.state.ThreadEntry.{ThreadEntry}
use Rattle.tko_runs.specs.declared.run.state.ThreadEntry.TheVariants.{NotEnrolled, Idle, InCall}
use Rattle.tko_runs.specs.States.{AllCome, RunState, claimed, entry_at, moment_of, opened_state, servers_written, state_after}
use Rattle.tko_runs.specs.Orders.{AllFollow, Follows, FollowsAt, IsFirstIllegal, IsOrder}
use Rattle.tko_runs.specs.Effects.{IsCallKept}
use Rattle.tko_runs.specs.Words.{IsValid}
use Rattle.tko_steps.specs.declared.step.StepKind.{StepKind}
use Rattle.tko_steps.specs.declared.step.Place.{Place}
use Rattle.tko_steps.specs.declared.step.Word.{Word}
use Rattle.tko_steps.specs.Legal.{IsLegal, tracker_in}
use Rattle.tko_steps.specs.Runs.{Moment, RunCall, calls_of, steps_in}

-- Changes of the calls.

-- `threads` threads, and no call
pub record AreOpened (threads : ℕ) (new : CheckedCalls) : Type 0 where
  pub latest : length new.latest.items ≡ threads
  pub calls : new.all.items ≡ []

-- one more call, which is the latest of its thread
pub record HasBegun (old : CheckedCalls) (thread number : ℕ) (op : Op) (server : ℕ)
    (new : CheckedCalls) : Type 0 where
  pub call : CheckedCall
  pub numbered : call.number ≡ number
  pub asks : call.op ≡ op
  pub on_server : call.server ≡ server
  pub open_yet : call.answer ≡ None
  pub no_step : call.steps.items ≡ []
  pub calls : new.all.items ≡ old.all.items ++ call ∷ []
  pub latest : new.latest.items ≡ slice_set old.latest.items thread (length old.all.items)

-- the call has one more step, and this answer
pub record HasGrown
    (old : CheckedCall) (effect : Effect) (answer : Option Reply) (new : CheckedCall) : Type 0 where
  pub numbered : new.number ≡ old.number
  pub asks : new.op ≡ old.op
  pub on_server : new.server ≡ old.server
  pub answered : new.answer ≡ answer
  pub one_more : new.steps.items ≡ old.steps.items ++ effect ∷ []

-- so has the latest call of the thread, and no other
pub record HasStepped
    (old : CheckedCalls)
    (thread : ℕ)
    (effect : Effect)
    (answer : Option Reply)
    (new : CheckedCalls) : Type 0 where
  pub call : CheckedCall
  pub now : CheckedCall
  pub is : call ≡ get_or old.all.items (get_or old.latest.items thread 0) call
  pub grown : HasGrown call effect answer now
  pub calls : new.all.items ≡ slice_set old.all.items (get_or old.latest.items thread 0) now
  pub latest : new.latest.items ≡ old.latest.items

-- What is kept.

-- one for each call, in the same order
abbrev pub AreKept : Settings → List RunCall → List CheckedCall → Type 0
AreKept s [] [] = Unit {0}
AreKept s [] (kept ∷ others) = ⊥
AreKept s (call ∷ calls) [] = ⊥
AreKept s (call ∷ calls) (kept ∷ others) = IsCallKept s call kept × AreKept s calls others

-- the place of the call that a thread began last, in a list with the newest first and the places
-- counted from the oldest
abbrev pub latest_place : ℕ → List RunCall → Option ℕ
latest_place thread [] = None
latest_place thread (call ∷ calls) =
    if call.thread == thread then Some (length calls) else latest_place thread calls

-- a thread that isn't enrolled began no call, and one that has a call began it last
abbrev pub IsLatest : ThreadEntry → Option ℕ → ℕ → Type 0
IsLatest NotEnrolled found place = found ≡ None
IsLatest (Idle number) found place = Unit {0}
IsLatest (InCall number server) found place = found ≡ Some place

-- these are the calls of this past, after which the threads are these
pub record AreCalls (s : Settings) (state : RunState) (past : List Moment) (own : CheckedCalls)
    : Type 0 where
  pub kept : AreKept s (calls_of past) (reverse own.all.items)
  pub latest : (thread : ℕ) →
      IsLatest
      (entry_at state thread)
      (latest_place thread (calls_of past))
      (get_or own.latest.items thread 0)
  pub threads : length own.latest.items ≡ length state.threads
  pub on_server : All (λ call. call.server < length state.words.servers) own.all.items

-- What a step shows.

-- what the sequential tracker answers and changes for a call, in the state of these servers
abbrev pub transition_of : Settings → List ServerState → CheckedCall → Transition
transition_of s servers call =
    transition_on (tracker_in s servers) call.number call.op call.server

-- the tracker gives this reply there, and its change leaves these servers
pub record GivesReply
    (s : Settings)
    (servers : List ServerState)
    (call : CheckedCall)
    (given : Reply)
    (new : List ServerState) : Type 0 where
  pub reply : (transition_of s servers call).reply ≡ given
  pub change : changed servers call.server (transition_of s servers call).change ≡ new

-- a server's word after it got this mark, if any
abbrev pub with_change : ServerState → Option Mark → ServerState
with_change found None = found
with_change found (Some mark) = record { mark = mark; stamp = found.stamp + 1 }

-- this is what a step shows that finds these servers and leaves those: whether it changes nothing,
-- and the tracker's reply if it makes the tracker's change
pub record Shows
    (s : Settings)
    (servers : List ServerState)
    (call : CheckedCall)
    (new : List ServerState)
    (effect : Effect) : Type 0 where
  pub quiet : (effect.is_quiet ≡ true) ↔ (new ≡ servers)
  pub gives : (given : Reply) → (effect.gives ≡ Some given) ↔ GivesReply s servers call given new

-- The state of the check.

abbrev pub AllValid : Settings → List ServerState → Type 0
AllValid s servers = All (IsValid s) servers

-- it keeps the calls of this past, and how many steps of calls there were
pub record IsCheckOf (past : List Moment) (d : CheckState) : Type 0 where
  pub settings : IsWithinRanges d.settings
  pub valid : AllValid d.settings d.run.words.servers
  pub steps : d.steps ≡ steps_in past
  pub calls : AreCalls d.settings d.run past d.calls

-- it is the state after some past
pub record IsCheckState (d : CheckState) : Type 0 where
  pub past : List Moment
  pub stands : IsCheckOf past d

pub record IsCheckOpened (s : Settings) (d : CheckState) : Type 0 where
  pub settings : d.settings ≡ s
  pub run : d.run ≡ opened_state s
  pub stands : IsCheckOf [] d

-- the state took a step of a thread's call, which follows
pub record HasFollowed
    (old : CheckState)
    (thread : ℕ)
    (kind : StepKind)
    (at : Place)
    (found left : Word)
    (answer : Option Reply)
    (new : CheckState) : Type 0 where
  pub follows : FollowsAt old.settings old.run kind at found left
  pub effect : Effect
  pub numbered : effect.at ≡ old.steps + 1
  pub grows : HasStepped old.calls thread effect answer new.calls
  pub shows : Shows
      old.settings
      old.run.words.servers
      grows.call
      (servers_written old.run.words.servers at left)
      effect
  pub settings : new.settings ≡ old.settings
  pub run : new.run ≡ old.run
  pub steps : new.steps ≡ old.steps + 1

-- why it refused the step
abbrev pub IsStrayFault : CheckState → StepKind → Place → Word → Word → RunFault → Type 0
IsStrayFault old kind at found left (fault.Step number) =
    (number ≡ old.steps + 1) × (FollowsAt old.settings old.run kind at found left → ⊥)
IsStrayFault old kind at found left (fault.Call number) = ⊥
IsStrayFault old kind at found left fault.Memory = Unit {0}

-- the state took the event, which follows
pub record HasEntered (old : CheckState) (event : Event) (new : CheckState) : Type 0 where
  pub settings : new.settings ≡ old.settings
  pub follows : Follows old.settings old.run event
  pub run : new.run ≡ state_after old.run event
  pub stands : (past : List Moment) →
      IsCheckOf past old → IsCheckOf (moment_of old.run event ∷ past) new

-- why it refused the event
abbrev pub IsRefusalFault : CheckState → Event → RunFault → Type 0
IsRefusalFault old event (fault.Step number) =
    (number ≡ old.steps + 1) × (Follows old.settings old.run event → ⊥)
IsRefusalFault old event (fault.Call number) = ⊥
IsRefusalFault old event fault.Memory = Unit {0}

-- the state took the first of these events, and these are left
pub record AreIn (s : Settings) (events rest : List Event) (d : CheckState) : Type 0 where
  pub before : List Event
  pub split : events ≡ before ++ rest
  pub settings : d.settings ≡ s
  pub run : d.run ≡ (claimed s before).state
  pub stands : IsCheckOf (claimed s before).past d
  pub follow : AllFollow s (opened_state s) before
  pub come : AllCome d.run rest

-- Where the calls take effect.

-- calls of which this is kept are legal, and take effect there
pub record AreJudged (kept : List CheckedCall) (points : List Point) : Type 0 where
  pub legal : (s : Settings) (calls : List RunCall) → AreKept s calls kept → All (IsLegal s) calls
  pub order : (s : Settings) (calls : List RunCall) → AreKept s calls kept → IsOrder s calls points

-- of those the call of that number is the first that isn't legal
pub record IsIllegalAt (kept : List CheckedCall) (number : ℕ) : Type 0 where
  pub first : (s : Settings) (calls : List RunCall) →
      AreKept s calls kept → IsFirstIllegal s calls number

abbrev pub IsIllegalFault : List CheckedCall → RunFault → Type 0
IsIllegalFault kept (fault.Step number) = ⊥
IsIllegalFault kept (fault.Call number) = IsIllegalAt kept number
IsIllegalFault kept fault.Memory = Unit {0}

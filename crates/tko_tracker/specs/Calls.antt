-- A call: the steps that it takes, one after another, from its begin to its answer.
use Rattle.std.specs.Prelude.{◌≡◌, ℕ, Bool, true, false, if◌then◌else◌, List, [], ◌∷◌, ◌++◌}
use Rattle.tko_model.specs.declared.mark.Op.{Op}
use Rattle.tko_model.specs.declared.mark.Op.TheVariants.{LookUp, SoftFailure, HardFailure, Success, Release}
use Rattle.tko_model.specs.declared.mark.Mark.{Mark}
use Rattle.tko_model.specs.declared.mark.Reply.{Reply}
use Rattle.tko_model.specs.declared.mark.Reply.TheVariants as reply
use Rattle.tko_model.specs.declared.state.ServerState.{ServerState}
use Rattle.tko_steps.specs.declared.step.Place.TheVariants as place
use Rattle.tko_steps.specs.declared.phase.Call.{Call}
use Rattle.tko_steps.specs.declared.phase.Phase.{Phase}
use Rattle.tko_steps.specs.declared.phase.Phase.TheVariants.{Start, Limit}
use Rattle.tko_steps.specs.declared.phase.ThreadState.TheVariants.{Idle}
use Rattle.tko_steps.specs.declared.table.Action.TheVariants.{Exchange}
use Rattle.tko_steps.specs.declared.table.Decision.{Decision}
use Rattle.tko_steps.specs.declared.table.Decision.TheVariants.{Goes, Answers}
use Rattle.tko_steps.specs.declared.table.Observed.{Observed}
use Rattle.tko_steps.specs.declared.table.Observed.TheVariants as seen
use Rattle.tko_steps.specs.Lost.{IsSlotOfOther, finds_no_slot}
use Rattle.tko_steps.specs.Steps.{begun_by, is_marked_state}
use Rattle.tko_steps.specs.Table.{action_of, next_of, same_server}
use Rattle.tko_table.specs.declared.pass.PassView.{PassView}
use Rattle.tko_table.specs.Passes.{without}
use Rattle.tko_table.specs.Steps.{Takes}
use Rattle.tko_tracker.specs.Tries.{HasTried, IsChangedByOthers, IsTurn, Taken, own_steps}

-- the replies that an operation may get
abbrev pub can_answer : Op → Reply → Bool
can_answer LookUp (reply.Up count) = true
can_answer LookUp (reply.Marked mark) = true
can_answer SoftFailure (reply.Counted count) = true
can_answer SoftFailure reply.TookSoft = true
can_answer SoftFailure reply.Full = true
can_answer SoftFailure (reply.Already mark) = true
can_answer SoftFailure reply.Worn = true
can_answer SoftFailure reply.Contended = true
can_answer HardFailure reply.TookHard = true
can_answer HardFailure reply.Hardened = true
can_answer HardFailure (reply.Already mark) = true
can_answer HardFailure reply.Worn = true
can_answer HardFailure reply.Contended = true
can_answer Success reply.Clean = true
can_answer Success (reply.Reset count) = true
can_answer Success (reply.Unmarked mark) = true
can_answer Success (reply.Already mark) = true
can_answer Success reply.Worn = true
can_answer Success reply.Contended = true
can_answer Release (reply.Released mark) = true
can_answer Release (reply.NotMine mark) = true
can_answer op answer = false

-- the replies that an operation may get on a server that its own thread marked
abbrev pub answers_owner : Op → Reply → Bool
answers_owner LookUp (reply.Marked mark) = true
answers_owner SoftFailure (reply.Already mark) = true
answers_owner HardFailure reply.Hardened = true
answers_owner HardFailure (reply.Already mark) = true
answers_owner Success (reply.Unmarked mark) = true
answers_owner Release (reply.Released mark) = true
answers_owner op answer = false

-- whether a call with this reply left the thread's mark on the server
abbrev pub takes : Reply → Bool
takes reply.TookSoft = true
takes reply.TookHard = true
takes reply.Hardened = true
takes answer = false

-- whether a call with this reply left the server unmarked
abbrev pub gives : Reply → Bool
gives (reply.Counted count) = true
gives (reply.Reset count) = true
gives (reply.Unmarked mark) = true
gives (reply.Released mark) = true
gives answer = false

-- the owned servers after a call on this server with this reply
abbrev pub owned_left : Reply → ℕ → List ℕ → List ℕ
owned_left answer server owned =
    if takes answer
    then server ∷ without server owned
    else (if gives answer then without server owned else owned)

-- the step of a call at this phase: that of the core. A thread does not lose the exchange of its
-- own mark
pub record IsStep (before : PassView) (call : Call) (phase : Phase) (read : Observed)
    (after : PassView) : Type 0 where
  pub takes : Takes before call phase read after
  pub sure : (found : ServerState) (mark : Mark) →
      action_of call.number phase ≡ Exchange found mark →
      is_marked_state found.mark ≡ true → read ≡ seen.Done true

-- the same with the step itself, which is the turn of its thread; where it is a look that finds no
-- slot left of a group, though more marks could be settled there, another thread holds one
pub record IsStepTaken (before : PassView) (call : Call) (phase : Phase) (taken : Taken)
    : Type 0 where
  pub step : IsStep before call phase taken.read taken.after
  pub turn : IsTurn step.takes.core step.takes.is_found.thread taken.step
  pub held : (group : ℕ) →
      taken.step.place ≡ place.Soft group →
      finds_no_slot before.settings taken.step ≡ true →
      IsSlotOfOther step.takes.core step.takes.is_found.thread group
  -- where it is an exchange of the server's word that is lost, or a second look that finds another
  -- word than the first, other threads changed the server since it was as expected
  pub lost : (found : ServerState) (mark : Mark) →
      action_of call.number phase ≡ Exchange found mark →
      taken.read ≡ seen.Done false →
      IsChangedByOthers
      before.settings
      call.number
      call.server
      found
      (before.seen ++ step.takes.between)
  pub changed : (found now : ServerState) →
      phase ≡ Limit found →
      taken.read ≡ seen.Server now →
      same_server found now ≡ false →
      IsChangedByOthers
      before.settings
      call.number
      call.server
      found
      (before.seen ++ step.takes.between)

-- a call goes on, or ends with a reply
abbrev pub CallGoesOn : Call → Decision → (Call → Phase → Type 0) → (Reply → Type 0) → Type 0
CallGoesOn call (Goes lost phase) more end = more (record call { lost = lost }) phase
CallGoesOn call (Answers answer) more end = end answer

-- the steps of a call from this phase to its answer
abbrev pub LeadsToAnswer : PassView → Call → Phase → List Taken → Reply → PassView → Type 0
LeadsToAnswer before call phase [] answer after = ⊥
LeadsToAnswer before call phase (step ∷ steps) answer after =
    IsStepTaken before call phase step
    × CallGoesOn
    call
    (next_of before.settings call phase step.read)
    (λ same later. LeadsToAnswer step.after same later steps answer after)
    (λ given. (steps ≡ []) × (given ≡ answer) × (step.after ≡ after))

-- an idle pass made a call with this answer
pub record Called (before : PassView) (op : Op) (server : ℕ) (answer : Reply) (after : PassView)
    : Type 0 where
  pub number : ℕ
  pub idle : before.state ≡ Idle number
  pub steps : List Taken
  pub leads : LeadsToAnswer before (begun_by number op server) Start steps answer after
  pub tried : HasTried before.settings answer (own_steps steps)

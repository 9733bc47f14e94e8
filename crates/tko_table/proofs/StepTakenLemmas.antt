-- What a caller knows of a step that it took.
use Rattle.std.proofs.Common.{◌≡◌, true, false, refl, ap, ◌∙◌}
use Rattle.tko_steps.specs.declared.phase.Call.{Call}
use Rattle.tko_steps.specs.declared.phase.Phase.{Phase}
use Rattle.tko_steps.specs.declared.phase.Phase.TheVariants.{Start}
use Rattle.tko_steps.specs.declared.phase.ThreadState.{ThreadState}
use Rattle.tko_steps.specs.declared.phase.ThreadState.TheVariants.{NotEnrolled, Idle, InCall}
use Rattle.tko_steps.specs.declared.table.Action.{Action}
use Rattle.tko_steps.specs.declared.table.Action.TheVariants as action
use Rattle.tko_steps.specs.Steps.{in_call}
use Rattle.tko_steps.specs.Table.{action_of}
use Rattle.tko_table.specs.Steps.{IsLook, IsShift, is_look_at_slots, is_settle}

-- ---- what a caller knows of a step that it took

-- a look
pub look-not_slots : (act : Action) → IsLook act → is_look_at_slots act ≡ false
    → act ≡ action.LookAtServer
look-not_slots action.LookAtServer look not_slots = refl
look-not_slots action.LookAtSlots look not_slots = cc
look-not_slots (action.Exchange found mark) look not_slots = absurd look
look-not_slots (action.Reserve slots) look not_slots = absurd look
look-not_slots action.Settle look not_slots = absurd look
look-not_slots action.Loosen look not_slots = absurd look
look-not_slots action.Give look not_slots = absurd look

pub look-slots : (act : Action) → is_look_at_slots act ≡ true → act ≡ action.LookAtSlots
look-slots action.LookAtServer e = cc
look-slots action.LookAtSlots e = refl
look-slots (action.Exchange found mark) e = cc
look-slots (action.Reserve slots) e = cc
look-slots action.Settle e = cc
look-slots action.Loosen e = cc
look-slots action.Give e = cc

pub shift-settle : (act : Action) → is_settle act ≡ true → act ≡ action.Settle
shift-settle action.LookAtServer e = cc
shift-settle action.LookAtSlots e = cc
shift-settle (action.Exchange found mark) e = cc
shift-settle (action.Reserve slots) e = cc
shift-settle action.Settle e = refl
shift-settle action.Loosen e = cc
shift-settle action.Give e = cc

pub shift-loosen : (act : Action) → IsShift act → is_settle act ≡ false → act ≡ action.Loosen
shift-loosen action.LookAtServer shift e = absurd shift
shift-loosen action.LookAtSlots shift e = absurd shift
shift-loosen (action.Exchange found mark) shift e = absurd shift
shift-loosen (action.Reserve slots) shift e = absurd shift
shift-loosen action.Settle shift e = cc
shift-loosen action.Loosen shift e = refl
shift-loosen action.Give shift e = absurd shift

-- a call that does not begin is under way
pub under-way : (state : ThreadState) (call : Call) (phase : Phase)
    → in_call state call.op call.server ≡ InCall call phase
    → action_of call.number phase ≡ action.LookAtSlots → state ≡ InCall call phase
under-way NotEnrolled call phase stands slots = cc
under-way (Idle number) call phase stands slots =
    let at : Start ≡ phase = cc in
    let e : action.LookAtServer ≡ action.LookAtSlots = ap (action_of call.number) at ∙ slots in
    cc
under-way (InCall own at) call phase stands slots = stands

-- What calls say of a key.
use Rattle.tko_route.specs.declared.routing.Stage.{Stage}
use Rattle.tko_route.specs.declared.routing.Stage.TheVariants as stage
use Rattle.tko_keys.specs.declared.step.KeyStep.{KeyStep}
use Rattle.tko_keys.specs.declared.step.KeyStep.TheVariants as key
use Rattle.tko_keys.specs.declared.step.SlotStep.{SlotStep}
use Rattle.tko_keys.specs.declared.step.SlotStep.TheVariants as slot

-- what a call of a key says where it came so far
abbrev pub slot_step : Stage → SlotStep
slot_step (stage.Away clear awaited) = slot.Due clear
slot_step (stage.Done trail) = slot.Tried trail

-- what a call for the keys says where one of a key said this
abbrev pub said_by : SlotStep → KeyStep
said_by (slot.Due clear) = key.Due clear
said_by (slot.Tried trail) = key.Tried trail

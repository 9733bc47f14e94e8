-- A past of so many steps, since which others changed each word of a call.
use Rattle.std.proofs.Common.{◌≡◌, ℕ, zero, suc, ◌+◌, true, List, [], ◌∷◌, None, refl, arith}
use Rattle.tko_model.specs.declared.mark.Mark.{Mark}
use Rattle.tko_model.specs.declared.mark.Mark.TheVariants.{Up, Soft, Hard}
use Rattle.tko_steps.specs.declared.phase.Call.{Call}
use Rattle.tko_steps.specs.declared.phase.Phase.{Phase}
use Rattle.tko_steps.specs.declared.phase.Phase.TheVariants.{Start, Read, AtThreshold, Limit}
use Rattle.tko_steps.specs.declared.phase.Phase.TheVariants.{Reserving, Holding, Firming, Losing}
use Rattle.tko_steps.specs.declared.phase.Phase.TheVariants.{Loosening, Loosened, Emptied}
use Rattle.tko_steps.specs.declared.step.StepKind.TheVariants as kind
use Rattle.tko_steps.specs.declared.step.Place.{Place}
use Rattle.tko_steps.specs.declared.step.Place.TheVariants as place
use Rattle.tko_steps.specs.declared.step.Word.TheVariants as word
use Rattle.tko_steps.specs.Runs.{Moment, StepTaken, Took, step_count_of, steps_in}
use Rattle.tko_steps.specs.Steps.{kind_of_exchange, step_kind}
use Rattle.tko_steps.specs.Table.{action_of}

abbrev other_step : ℕ → Place → StepTaken
other_step thread at =
    record {
      thread = thread + 1;
      kind = kind.Enrol;
      place = at;
      found = word.Enrolled 0;
      left = word.Enrolled 1;
      won = true;
      answer = None;
      before = [];
      after = [];
    }

abbrev look_step : StepTaken
look_step =
    record {
      thread = 0;
      kind = kind.Look;
      place = place.Soft 0;
      found = word.Enrolled 0;
      left = word.Enrolled 0;
      won = true;
      answer = None;
      before = [];
      after = [];
    }

abbrev looks : ℕ → List Moment
looks zero = []
looks (suc n) = Took look_step ∷ looks n

pub steps-looks : (n : ℕ) → steps_in (looks n) ≡ n
steps-looks zero = refl
steps-looks (suc n) = omega (arith, steps-looks n)

abbrev pub past_of : ℕ → ℕ → ℕ → ℕ → List Moment
past_of thread server group n =
    Took (other_step thread (place.Server server))
    ∷ Took (other_step thread (place.Soft group)) ∷ looks n

count-exchange : (found new : Mark) → step_count_of (kind_of_exchange found new) ≡ 1
count-exchange (Up a) (Up b) = refl
count-exchange (Up a) (Soft b) = refl
count-exchange (Up a) (Hard b) = refl
count-exchange (Soft a) new = refl
count-exchange (Hard a) new = refl

pub count-act : (call : Call) (phase : Phase)
    → step_count_of (step_kind (action_of call.number phase)) ≡ 1
count-act call Start = refl
count-act call (Read found mark answer) = count-exchange found.mark mark
count-act call (AtThreshold found) = refl
count-act call (Limit found) = refl
count-act call (Reserving found slots) = refl
count-act call (Holding found) = count-exchange found.mark (Soft call.number)
count-act call Firming = refl
count-act call Losing = refl
count-act call (Loosening found mark answer) = refl
count-act call (Loosened found mark answer) = count-exchange found.mark mark
count-act call (Emptied answer) = refl

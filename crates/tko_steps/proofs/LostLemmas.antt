-- Lost tries: what each phase says of the looks and lost tries of its call, and of what other threads changed since.
use Rattle.std.proofs.Common.{◌≡◌, ℕ, ◌⊎◌, Bool, true, false, List, Some, None}
use Rattle.tko_model.specs.Settings.{Settings}
use Rattle.tko_model.specs.declared.state.ServerState.{ServerState}
use Rattle.tko_model.specs.Tracker.{server_at}
use Rattle.tko_steps.specs.declared.phase.Call.{Call as CallState}
use Rattle.tko_steps.specs.declared.phase.Phase.{Phase}
use Rattle.tko_steps.specs.declared.phase.Phase.TheVariants.{Start, Read, AtThreshold, Limit, Reserving, Holding, Firming, Losing, Loosening, Loosened, Emptied}
use Rattle.tko_steps.specs.declared.phase.Slots.{Slots}
use Rattle.tko_steps.specs.declared.step.Place.TheVariants as place
use Rattle.tko_steps.specs.declared.step.Word.TheVariants as word
use Rattle.tko_steps.specs.Core.{abstract_of, slots_at}
use Rattle.tko_steps.specs.Lost.{ExpectsWhatItSaw, HasLostEachTry, IsChangedSince, holds_slot, last_look, lost_tries, owes_slot}
use Rattle.tko_steps.specs.Runs.{OwnStep, RunCall, World}
use Rattle.tko_steps.proofs.StartLemmas.{is_plain}
use Rattle.tko_model.specs.Groups.{group_of}

-- ---- what a call knows of its tries

-- no look of this try has found its server, which lost so many tries before it
pub record HasNotLooked (s : Settings) (server lost : ℕ) (steps : List OwnStep) : Type 0 where
  pub count : lost_tries s steps ≡ lost
  pub holds : holds_slot steps ≡ false
  pub looked : last_look s (place.Server server) steps ≡ None

-- the try is lost, and is counted once the slot is given back
pub record HasLost (s : Settings) (server lost : ℕ) (steps : List OwnStep) : Type 0 where
  pub count : lost_tries s steps ≡ lost
  pub owes : owes_slot s steps ≡ true
  pub looked : last_look s (place.Server server) steps ≡ None

-- this try's last look found its server like this, and it still is, or another thread changed it since
pub record HasLooked (s : Settings) (w : World) (thread server lost : ℕ) (steps : List OwnStep) (held : Bool) (found : ServerState) : Type 0 where
  pub count : lost_tries s steps ≡ lost
  pub holds : holds_slot steps ≡ held
  pub looked : last_look s (place.Server server) steps ≡ Some (word.Server found)
  pub since : (server_at (abstract_of w.core) server ≡ found) ⊎ IsChangedSince thread (place.Server server) w.past

-- the same of the soft word of a group
pub record HasCounted (s : Settings) (w : World) (thread group : ℕ) (steps : List OwnStep) (slots : Slots) : Type 0 where
  pub looked : last_look s (place.Soft group) steps ≡ Some (word.Soft slots)
  pub since : (slots_at w.core.shared.slots group ≡ slots) ⊎ IsChangedSince thread (place.Soft group) w.past

abbrev pub Tries : Settings → World → ℕ → CallState → List OwnStep → Phase → Type 0
Tries s w thread call steps Start = HasNotLooked s call.server call.lost steps
Tries s w thread call steps (Read found mark answer) =
    HasLooked s w thread call.server call.lost steps false found × (is_plain answer ≡ true)
Tries s w thread call steps (AtThreshold found) = HasLooked s w thread call.server call.lost steps false found
Tries s w thread call steps (Limit found) = HasLooked s w thread call.server call.lost steps false found
Tries s w thread call steps (Reserving found slots) =
    HasLooked s w thread call.server call.lost steps false found × HasCounted s w thread (group_of s call.server) steps slots
Tries s w thread call steps (Holding found) = HasLooked s w thread call.server call.lost steps true found
Tries s w thread call steps Firming = Unit {0}
Tries s w thread call steps Losing = HasLost s call.server call.lost steps
Tries s w thread call steps (Loosening found mark answer) =
    HasLooked s w thread call.server call.lost steps false found × (is_plain answer ≡ true)
Tries s w thread call steps (Loosened found mark answer) =
    HasLooked s w thread call.server call.lost steps true found × (is_plain answer ≡ true)
Tries s w thread call steps (Emptied answer) = is_plain answer ≡ true

abbrev pub KnowsTries : Settings → World → ℕ → CallState → List OwnStep → Phase → Type 0
KnowsTries s w thread call steps phase = ExpectsWhatItSaw s steps × Tries s w thread call steps phase

-- what the law says of the tries of a call
abbrev pub IsTried : Settings → RunCall → Type 0
IsTried s call = HasLostEachTry s call × ExpectsWhatItSaw s call.steps

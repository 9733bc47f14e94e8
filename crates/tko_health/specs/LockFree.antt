-- The record of a health object over a tracker without a lock. The object is a pass of the tracker:
-- what its thread knows.
use Rattle.std.specs.Prelude.{◌≡◌, ℕ, ◌+◌, ◌≤◌, true, false, List, [], ◌∷◌, All, Some}
use Rattle.tko_model.specs.declared.mark.Op.{Op}
use Rattle.tko_model.specs.declared.mark.Reply.{Reply}
use Rattle.tko_model.specs.Settings.{Settings}
use Rattle.tko_model.specs.Records.{HealthItem, Called, NoDuty}
use Rattle.tko_steps.specs.declared.phase.ThreadState.TheVariants.{Idle}
use Rattle.tko_steps.specs.Cost.{most_steps}
use Rattle.tko_table.specs.declared.pass.Change.{Change}
use Rattle.tko_table.specs.declared.pass.Made.{Made}
use Rattle.tko_table.specs.declared.pass.PassView.{PassView}
use Rattle.tko_table.specs.Passes.{owns}
use Rattle.tko_tracker.specs.Calls.{owned_left}
use Rattle.tko_tracker.specs.History.{IsAnsweredAt}
use Rattle.tko_tracker.specs.Seated.{Answered, IsOf, Makes, OwnsNothing, Seated, TrackerId}

-- the server's mark names the pass's thread
abbrev pub IsSeatOwner : Seated → ℕ → Type 0
IsSeatOwner seated server = owns seated.pass.owned server ≡ true

-- a worker begins with its idle pass as it is, and owns no server
pub record IsSeated (idle worker : Seated) : Type 0 where
  pub same : worker ≡ idle
  pub none : OwnsNothing worker.pass

-- an item of a pass's record, from the pass before to the pass after: a call that the tracker
-- answered so, or the right to probe a server that the thread does not own
abbrev pub IsPassStep : TrackerId → Seated → HealthItem → Seated → Type 0
IsPassStep tracker old (Called op server answer) new = Answered tracker old op server answer new
IsPassStep tracker old (NoDuty server) new =
    (owns old.pass.owned server ≡ false) × (new ≡ old)

-- the servers that a thread owns after these items
abbrev pub owned_by : List HealthItem → List ℕ → List ℕ
owned_by [] owned = owned
owned_by (Called op server answer ∷ items) owned = owned_by items (owned_left answer server owned)
owned_by (NoDuty server ∷ items) owned = owned_by items owned

-- how many atomic steps these items may take
abbrev pub most_steps_of : Settings → List HealthItem → ℕ
most_steps_of s [] = 0
most_steps_of s (Called op server answer ∷ items) = most_steps s op + most_steps_of s items
most_steps_of s (NoDuty server ∷ items) = most_steps_of s items

-- this is the call of that item
pub record IsCallOf (op : Op) (server : ℕ) (answer : Reply) (made : Made) : Type 0 where
  pub does : made.op ≡ op
  pub on : made.server ≡ server
  pub answered : made.reply ≡ answer

-- these are the calls among the items, in order
abbrev pub AreCallsOf : List HealthItem → List Made → Type 0
AreCallsOf [] calls = calls ≡ []
AreCallsOf (Called op server answer ∷ items) [] = ⊥
AreCallsOf (Called op server answer ∷ items) (made ∷ calls) =
    IsCallOf op server answer made × AreCallsOf items calls
AreCallsOf (NoDuty server ∷ items) calls = AreCallsOf items calls

-- the reply to this call of the thread of this number, unless it lost every try, is the sequential
-- tracker's after as many changes of the history as the call says, and so is its change
abbrev pub IsRepliedIn : Settings → ℕ → List Change → Made → Type 0
IsRepliedIn s number history made =
    (at : ℕ) → made.at ≡ Some at →
    IsAnsweredAt s number made.op made.server made.reply at [] history

-- calls that the thread of this number made, from one pass to the next: they go last in its calls,
-- each with the sequential tracker's reply at a place of the history that the pass has then seen;
-- and that history begins with what it had seen, its thread's changes since then being the calls'
pub record MakesCalls (number : ℕ) (old : PassView) (calls : List Made) (new : PassView)
    : Type 0 where
  pub makes : Makes number old calls new
  pub replied : All (IsRepliedIn old.settings number new.seen) calls

-- what a record of a tracker's pass means: it is still that tracker's and its thread's, the calls
-- that its thread made are the items', the replies say which servers the thread owns, and the steps
-- are bounded
pub record IsPassRecord (tracker : TrackerId) (old : Seated) (items : List HealthItem)
    (new : Seated) : Type 0 where
  pub of : IsOf tracker new
  pub state : new.pass.state ≡ old.pass.state
  pub owned : new.pass.owned ≡ owned_by items old.pass.owned
  pub steps : new.pass.steps ≤ old.pass.steps + most_steps_of tracker.settings items
  pub calls : List Made
  pub are : AreCallsOf items calls
  pub made : (number : ℕ) →
      old.pass.state ≡ Idle number → MakesCalls number old.pass calls new.pass

-- The words once no thread uses them any more.
use Rattle.std.specs.Prelude.{◌≡◌, ℕ, ◌<◌, false, List, All, length}
use Rattle.tko_model.specs.Settings.{Settings}
use Rattle.tko_steps.specs.declared.phase.ThreadState.TheVariants.{Idle}
use Rattle.tko_steps.specs.Core.{Shared, no_slots, slots_at}
use Rattle.tko_steps.specs.Steps.{is_marked_state}
use Rattle.tko_table.specs.declared.pass.Change.{Change}
use Rattle.tko_table.specs.declared.pass.PassView.{PassView}
use Rattle.tko_table.specs.History.{Begins, Replays}
use Rattle.tko_table.specs.Passes.{HasItsChanges, owns}
use Rattle.tko_model.specs.Groups.{groups}

-- the thread of the pass makes no call, and owns no server
pub record IsDone (pass : PassView) : Type 0 where
  pub number : ℕ
  pub idle : pass.state ≡ Idle number
  pub none : (server : ℕ) → owns pass.owned server ≡ false

-- words that are closed: their settings, and what they hold
pub record ClosedContents : Type 0 where
  pub settings : Settings
  pub shared : Shared

-- what the threads of these passes left: the servers are the replay of one history, which begins
-- with what each pass has seen; the changes in it by each number are, in order, those of its pass's
-- calls, and no other number stands in it; no server is marked, and no slot of any
-- group is taken
pub record IsLeftByThreads (s : Settings) (passes : List PassView) (shared : Shared) : Type 0 where
  pub history : List Change
  pub replays : Replays s history shared.servers
  pub seen : All (λ pass. Begins pass.seen history) passes
  pub mine : All (HasItsChanges history) passes
  pub drawn : All (λ change. change.number < s.threads) history
  pub unmarked : All (λ server. is_marked_state server.mark ≡ false) shared.servers
  pub soft_words : length shared.slots ≡ groups s
  pub free : (group : ℕ) → group < groups s → slots_at shared.slots group ≡ no_slots

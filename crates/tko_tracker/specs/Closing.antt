-- Two passes that meet, and a tracker that is closed.
use Rattle.std.specs.Prelude.{◌≡◌, ℕ, ◌<◌, false, List, [], ◌∷◌, length, map, count_by, All}
use Rattle.tko_model.specs.declared.state.ServerState.{ServerState}
use Rattle.tko_steps.specs.declared.phase.ThreadState.TheVariants.{Idle}
use Rattle.tko_steps.specs.Core.{no_slots, slots_at}
use Rattle.tko_steps.specs.Owners.{has_number}
use Rattle.tko_steps.specs.Steps.{is_marked_state}
use Rattle.tko_table.specs.declared.pass.Change.{Change}
use Rattle.tko_table.specs.declared.pass.PassView.{PassView}
use Rattle.tko_table.specs.Closing.{ClosedContents, IsDone}
use Rattle.tko_table.specs.History.{Begins, Replays, changes_in, made_by}
use Rattle.tko_table.specs.Passes.{longest_seen, with_seen}
use Rattle.tko_tracker.specs.Seated.{Seated, TrackerId}
use Rattle.tko_model.specs.Groups.{groups}

-- the pass once these two met: it has then seen the longer of the histories that they had seen
abbrev pub met : Seated → Seated → Seated → Seated
met one other pass =
    record {
      pass = with_seen (longest_seen (one.pass ∷ other.pass ∷ [])) pass.pass;
      table = pass.table;
    }

-- how many of these passes have this number
abbrev pub count_of_number : ℕ → List Seated → ℕ
count_of_number number passes = count_by (λ it. has_number number it.pass.state) passes

-- these are the passes of all threads, each once
pub record HoldsEachOnce (threads : ℕ) (passes : List Seated) : Type 0 where
  pub count : length passes ≡ threads
  pub each : (number : ℕ) → number < threads → count_of_number number passes ≡ 1

-- the changes by the thread of this pass are, in order, those of the calls that it made
abbrev pub HasItsCalls : List Change → Seated → Type 0
HasItsCalls history it =
    (number : ℕ) →
    it.pass.state ≡ Idle number → made_by number history ≡ changes_in number it.pass.mine

-- what a tracker is at its end: its servers are the replay of one history, which begins with what
-- each pass has seen, and in which each pass' changes stand once and in order, and no others; no
-- server is marked, and no slot of any group is taken
pub record IsFinal (tracker : TrackerId) (passes : List Seated) (left : ClosedContents)
    : Type 0 where
  pub settings : left.settings ≡ tracker.settings
  pub history : List Change
  pub replays : Replays tracker.settings history left.shared.servers
  pub seen : All (λ (it : Seated). Begins it.pass.seen history) passes
  pub mine : All (HasItsCalls history) passes
  pub drawn : All (λ change. change.number < tracker.settings.threads) history
  pub unmarked :
      All (λ (server : ServerState). is_marked_state server.mark ≡ false) left.shared.servers
  pub free : (group : ℕ) → group < groups tracker.settings →
      slots_at left.shared.slots group ≡ no_slots

-- Seats that are joined.

-- a pass of a joined seat is this one
pub record IsSame (old new : PassView) : Type 0 where
  pub state : new.state ≡ old.state
  pub mine : new.mine ≡ old.mine
  pub seen : new.seen ≡ old.seen
  pub settings : new.settings ≡ old.settings

abbrev pub AreSame : List PassView → List PassView → Type 0
AreSame [] [] = Unit {0}
AreSame (old ∷ olds) (new ∷ news) = IsSame old new × AreSame olds news
AreSame olds news = ⊥

-- the passes of a view are those of idle passes, in their order
pub record AreJoined (passes : List Seated) (view : List PassView) : Type 0 where
  pub same : AreSame (map (λ it. it.pass) passes) view
  pub done : All IsDone view

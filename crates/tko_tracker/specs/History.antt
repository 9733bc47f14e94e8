-- What a call adds to the history, and to the calls that its thread made.
use Rattle.std.specs.Prelude.{◌≡◌, ◌≢◌, ℕ, ◌+◌, ◌<◌, List, [], ◌∷◌, ◌++◌, length}
use Rattle.tko_model.specs.declared.mark.Op.{Op}
use Rattle.tko_model.specs.declared.mark.Reply.{Reply}
use Rattle.tko_model.specs.declared.mark.Reply.TheVariants.{Contended}
use Rattle.tko_model.specs.Settings.{Settings}
use Rattle.tko_model.specs.declared.state.ServerState.{ServerState}
use Rattle.tko_model.specs.Tracker.{after, reply_of}
use Rattle.tko_steps.specs.declared.phase.ThreadState.TheVariants.{Idle}
use Rattle.tko_steps.specs.Legal.{tracker_in}
use Rattle.tko_steps.specs.Steps.{begun_by}
use Rattle.tko_table.specs.declared.pass.Change.{Change}
use Rattle.tko_table.specs.declared.pass.PassView.{PassView}
use Rattle.tko_table.specs.History.{Replays, changes_in, made_by, made_with}

-- the change of a call with this answer, if its answer stands for one
abbrev pub own_change : ℕ → Op → ℕ → Reply → List Change
own_change number op server answer =
    changes_in number (made_with (begun_by number op server) answer 0 ∷ [])

-- after a beginning of the history that holds all that was seen as the call began, and that has
-- this length, the sequential tracker gives the call this reply; it then changes what the call
-- changed, which is next in the history, and else nothing
pub record IsAnsweredAt
    (s : Settings) (number : ℕ) (op : Op) (server : ℕ) (answer : Reply) (at : ℕ)
    (begun seen : List Change) : Type 0
  where
    pub since : List Change
    pub later : List Change
    pub place : length (begun ++ since) ≡ at
    pub among : seen ≡ (begun ++ since) ++ (own_change number op server answer ++ later)
    pub servers : List ServerState
    pub replays : Replays s (begun ++ since) servers
    pub reply : reply_of (tracker_in s servers) number op server ≡ answer
    pub change :
        Replays
        s
        ((begun ++ since) ++ own_change number op server answer)
        (after (tracker_in s servers) number op server).servers

-- a call with this answer: its pass has then seen what it had seen and more; in that its thread's
-- only change is the call's own, if its answer stands for one; and the call goes last in the
-- thread's calls
pub record Adds (before : PassView) (op : Op) (server : ℕ) (answer : Reply) (after : PassView)
    : Type 0 where
  pub number : ℕ
  pub idle : before.state ≡ Idle number
  -- the number of changes after which its answer was decided
  pub at : ℕ
  pub more : List Change
  pub seen : after.seen ≡ before.seen ++ more
  pub own : made_by number more
      ≡ changes_in number (made_with (begun_by number op server) answer at ∷ [])
  pub mine : after.mine ≡ before.mine ++ made_with (begun_by number op server) answer at ∷ []
  -- there the sequential tracker gives this reply, unless the call lost every try
  pub decided : answer ≢ Contended →
      IsAnsweredAt before.settings number op server answer at before.seen after.seen
  -- it took a step; where that was its only one, its answer was decided at the end
  pub stepped : before.steps < after.steps
  pub at_once : after.steps ≡ before.steps + 1 → at ≡ length after.seen
  -- with one thread alone it was decided where it began, and no try was lost
  pub alone : before.settings.threads ≡ 1 → (answer ≢ Contended) × (at ≡ length before.seen)

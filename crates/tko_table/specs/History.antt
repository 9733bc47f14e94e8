-- The history: the changes of the servers' marks, oldest first, as the sequential tracker makes
-- them one after another.
use Rattle.std.specs.Prelude.{◌≡◌, ℕ, ◌==◌, Bool, true, false, if◌then◌else◌, List, [], ◌∷◌, ◌++◌, Option, Some, None}
use Rattle.tko_model.specs.declared.mark.Reply.{Reply}
use Rattle.tko_model.specs.declared.mark.Reply.TheVariants as reply
use Rattle.tko_model.specs.Settings.{Settings}
use Rattle.tko_model.specs.declared.state.ServerState.{ServerState}
use Rattle.tko_model.specs.Tracker.{after, opened, reply_of}
use Rattle.tko_steps.specs.declared.phase.Call.{Call}
use Rattle.tko_steps.specs.Legal.{tracker_in}
use Rattle.tko_table.specs.declared.pass.Change.{Change}
use Rattle.tko_table.specs.declared.pass.Made.{Made}

-- the change that a call made, which is answered so
abbrev pub change_by : Call → Reply → Change
change_by call answer =
    record { number = call.number; op = call.op; server = call.server; reply = answer }

-- from the first servers the sequential tracker does each change, with that reply, and ends with
-- the last
abbrev pub Leads : Settings → List ServerState → List Change → List ServerState → Type 0
Leads s first [] last = last ≡ first
Leads s first (change ∷ changes) last =
    (reply_of (tracker_in s first) change.number change.op change.server ≡ change.reply)
    × Leads
    s
    (after (tracker_in s first) change.number change.op change.server).servers
    changes
    last

-- the history of a tracker whose servers now are these
pub record Replays (s : Settings) (history : List Change) (servers : List ServerState) : Type 0
  where
    pub leads : Leads s (opened s).servers history servers

-- a history begins with what was seen of it
pub record Begins (seen history : List Change) : Type 0 where
  pub rest : List Change
  pub is : history ≡ seen ++ rest

-- one of these changes is of this server
pub record HasChangeOf (server : ℕ) (changes : List Change) : Type 0 where
  pub earlier : List Change
  pub change : Change
  pub later : List Change
  pub among : changes ≡ earlier ++ change ∷ later
  pub on : change.server ≡ server

-- Whose change is whose.

-- whether a call with this reply changed its server
abbrev pub is_change : Reply → Bool
is_change (reply.Counted count) = true
is_change reply.TookSoft = true
is_change reply.TookHard = true
is_change reply.Hardened = true
is_change (reply.Reset count) = true
is_change (reply.Unmarked mark) = true
is_change (reply.Released mark) = true
is_change answer = false

-- the changes by the thread of this number
abbrev pub made_by : ℕ → List Change → List Change
made_by number [] = []
made_by number (change ∷ changes) =
    if change.number == number then change ∷ made_by number changes else made_by number changes

-- the change that a call of the thread with this number made
abbrev pub change_of : ℕ → Made → Change
change_of number made =
    record { number = number; op = made.op; server = made.server; reply = made.reply }

-- the changes among the calls that the thread with this number made
abbrev pub changes_in : ℕ → List Made → List Change
changes_in number [] = []
changes_in number (made ∷ more) =
    if is_change made.reply
    then change_of number made ∷ changes_in number more
    else changes_in number more

-- where the sequential tracker gives an answer, which a call that lost every try has nowhere
abbrev pub place_of_answer : Reply → ℕ → Option ℕ
place_of_answer reply.Contended at = None
place_of_answer answer at = Some at

-- the call with its answer, which was decided after the first `at` changes
abbrev pub made_with : Call → Reply → ℕ → Made
made_with call answer at =
    record {
      op = call.op;
      server = call.server;
      reply = answer;
      at = place_of_answer answer at;
    }

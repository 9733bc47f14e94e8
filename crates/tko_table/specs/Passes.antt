-- What a pass knows, and what a step of its own changes of it.
use Rattle.std.specs.Prelude.{◌≡◌, ℕ, ◌+◌, Bool, false, ◌==◌, ◌||◌, if◌then◌else◌, List, [], ◌∷◌, Option, Some, None, replicate, nat_lt, length, map, ◌++◌}
use Rattle.tko_model.specs.declared.mark.Mark.{Mark}
use Rattle.tko_model.specs.declared.mark.Mark.TheVariants.{Up, Soft, Hard}
use Rattle.tko_model.specs.declared.mark.Reply.TheVariants.{TookSoft}
use Rattle.tko_model.specs.Settings.{Settings}
use Rattle.tko_model.specs.declared.state.ServerState.{ServerState}
use Rattle.tko_model.specs.Tracker.{server_at}
use Rattle.tko_steps.specs.declared.phase.Call.{Call}
use Rattle.tko_steps.specs.declared.phase.Phase.{Phase}
use Rattle.tko_steps.specs.declared.phase.Phase.TheVariants.{Read, Limit, Holding, Firming, Loosened, Emptied}
use Rattle.tko_steps.specs.declared.phase.ThreadState.{ThreadState}
use Rattle.tko_steps.specs.declared.phase.ThreadState.TheVariants.{NotEnrolled, Idle, InCall}
use Rattle.tko_steps.specs.declared.table.Action.{Action}
use Rattle.tko_steps.specs.declared.table.Action.TheVariants.{Exchange}
use Rattle.tko_steps.specs.declared.table.Decision.{Decision}
use Rattle.tko_steps.specs.declared.table.Decision.TheVariants.{Goes, Answers}
use Rattle.tko_steps.specs.declared.table.Observed.{Observed}
use Rattle.tko_steps.specs.Core.{drawn_number}
use Rattle.tko_steps.specs.Owners.{is_enrolled}
use Rattle.tko_steps.specs.Steps.{decided_state, is_done}
use Rattle.tko_steps.specs.Table.{action_of, next_of}
use Rattle.tko_table.specs.declared.pass.Change.{Change}
use Rattle.tko_table.specs.declared.pass.Made.{Made}
use Rattle.tko_table.specs.declared.pass.PassView.{PassView}
use Rattle.tko_table.specs.History.{change_by, changes_in, made_by, made_with}

-- a pass that took no step, and the passes of all threads before their first
abbrev pub new_pass : Settings → PassView
new_pass s =
    record {
      state = NotEnrolled;
      owned = [];
      steps = 0;
      seen = [];
      mine = [];
      decided_at = 0;
      settings = s;
    }

abbrev pub new_passes : Settings → List PassView
new_passes s = replicate s.threads (new_pass s)

-- whether the thread with this number, if it has one, made the mark
abbrev pub is_marked_by : Option ℕ → Mark → Bool
is_marked_by None mark = false
is_marked_by (Some number) (Up count) = false
is_marked_by (Some number) (Soft owner) = owner == number
is_marked_by (Some number) (Hard owner) = owner == number

-- whether a server is among those owned
abbrev pub owns : List ℕ → ℕ → Bool
owns [] server = false
owns (own ∷ owned) server = (own == server) || owns owned server

abbrev pub without : ℕ → List ℕ → List ℕ
without server [] = []
without server (own ∷ owned) =
    if own == server then without server owned else own ∷ without server owned

-- the owned servers once the thread gave this server this mark
abbrev pub owned_with : List ℕ → ℕ → Mark → List ℕ
owned_with owned server (Up count) = without server owned
owned_with owned server mark = server ∷ without server owned

-- the owned servers after a step; only an exchange that is won changes them
abbrev pub owned_after_action : List ℕ → ℕ → Action → Bool → List ℕ
owned_after_action owned server (Exchange found mark) won =
    if won then owned_with owned server mark else owned
owned_after_action owned server action won = owned

-- the change of a mark that a call at this phase makes, if its exchange is won
abbrev pub change_at : Call → Phase → List Change
change_at call (Read found mark answer) = change_by call answer ∷ []
change_at call (Holding found) = change_by call TookSoft ∷ []
change_at call (Loosened found mark answer) = change_by call answer ∷ []
change_at call phase = []

abbrev pub changes_by : Call → Phase → Bool → List Change
changes_by call phase won = if won then change_at call phase else []

-- the change that a call has made and not answered yet
abbrev pub pending_at : Call → Phase → List Change
pending_at call Firming = change_by call TookSoft ∷ []
pending_at call (Emptied answer) = change_by call answer ∷ []
pending_at call phase = []

abbrev pub pending : ThreadState → List Change
pending (InCall call phase) = pending_at call phase
pending state = []

-- how many changes there were where the answer of a call was decided, once it took the step of this
-- phase: a second look that finds the same decides nothing, nor does a step that follows a change
abbrev pub decided_after : Phase → ℕ → ℕ → ℕ
decided_after (Limit found) earlier now = earlier
decided_after Firming earlier now = earlier
decided_after (Emptied answer) earlier now = earlier
decided_after phase earlier now = now

-- the calls that a thread made, once this followed for the one under way
abbrev pub mine_after : List Made → Call → Decision → ℕ → List Made
mine_after mine call (Goes lost phase) at = mine
mine_after mine call (Answers answer) at = mine ++ made_with call answer at ∷ []

-- the pass once its call, at this phase, took the step that read this, and found this history
abbrev pub pass_after_step : PassView → Call → Phase → Observed → List Change → PassView
pass_after_step pass call phase read history =
    let decision = next_of pass.settings call phase read in
    let at = decided_after phase pass.decided_at (length history) in
    record {
      state = decided_state call decision;
      owned =
          owned_after_action pass.owned call.server (action_of call.number phase) (is_done read);
      steps = pass.steps + 1;
      seen = history ++ changes_by call phase (is_done read);
      mine = mine_after pass.mine call decision at;
      decided_at = at;
      settings = pass.settings;
    }

-- the changes by a thread of this number are those of its answered calls, in their order, and the
-- one that its call under way has made; and it has seen them. A thread without a number made no
-- call
abbrev pub StandsIn : Option ℕ → List Change → PassView → Type 0
StandsIn None history pass = pass.mine ≡ []
StandsIn (Some number) history pass =
    (made_by number history ≡ changes_in number pass.mine ++ pending pass.state)
    × (made_by number pass.seen ≡ made_by number history)

abbrev pub HasItsChanges : List Change → PassView → Type 0
HasItsChanges history pass = StandsIn (drawn_number pass.state) history pass

-- the pass owns exactly the servers whose marks name its number
abbrev pub PassOwnsItsMarks : List ServerState → PassView → Type 0
PassOwnsItsMarks servers pass =
    (server : ℕ) →
    owns pass.owned server ≡ is_marked_by (drawn_number pass.state) (server_at servers server).mark

-- the pass once it drew this number, and saw this history
abbrev pub enrolled_pass : PassView → ℕ → List Change → PassView
enrolled_pass pass number history =
    record {
      state = Idle number;
      owned = pass.owned;
      steps = pass.steps + 1;
      seen = history;
      mine = pass.mine;
      decided_at = pass.decided_at;
      settings = pass.settings;
    }

-- the passes once the first of them that isn't enrolled drew this number
abbrev pub enrol_first : List PassView → ℕ → List Change → List PassView
enrol_first [] number history = []
enrol_first (pass ∷ passes) number history =
    if is_enrolled pass.state
    then pass ∷ enrol_first passes number history
    else enrolled_pass pass number history ∷ passes

-- how many of these passes are enrolled
abbrev pub count_enrolled : List PassView → ℕ
count_enrolled [] = 0
count_enrolled (pass ∷ passes) =
    if is_enrolled pass.state then count_enrolled passes + 1 else count_enrolled passes

-- the longest history that one of these passes has seen
abbrev pub longest_seen : List PassView → List Change
longest_seen [] = []
longest_seen (pass ∷ passes) =
    if nat_lt (length (longest_seen passes)) (length pass.seen)
    then pass.seen
    else longest_seen passes

-- the pass once it has seen this history
abbrev pub with_seen : List Change → PassView → PassView
with_seen history pass =
    record {
      state = pass.state;
      owned = pass.owned;
      steps = pass.steps;
      seen = history;
      mine = pass.mine;
      decided_at = pass.decided_at;
      settings = pass.settings;
    }

-- joined passes: each has then seen what any of them had seen
abbrev pub passes_raised : List PassView → List PassView
passes_raised passes = map (with_seen (longest_seen passes)) passes

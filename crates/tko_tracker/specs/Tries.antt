-- The own steps of a call of running threads, in the words of a run of the core (`Runs` and `Lost`
-- of tko_steps), and the tries that it lost.
use Rattle.std.specs.Prelude.{◌≡◌, ℕ, List, [], ◌∷◌, ◌++◌}
use Rattle.tko_model.specs.declared.mark.Reply.{Reply}
use Rattle.tko_model.specs.declared.mark.Reply.TheVariants.{Contended}
use Rattle.tko_model.specs.Settings.{Settings}
use Rattle.tko_model.specs.declared.state.ServerState.{ServerState}
use Rattle.tko_model.specs.Tracker.{server_at}
use Rattle.tko_steps.specs.declared.table.Observed.{Observed}
use Rattle.tko_steps.specs.Core.{CoreState}
use Rattle.tko_steps.specs.Lost.{ExpectsWhatItSaw, lost_tries}
use Rattle.tko_steps.specs.Runs.{OwnStep, Step, StepTaken, Took, happens}
use Rattle.tko_table.specs.declared.pass.Change.{Change}
use Rattle.tko_table.specs.declared.pass.PassView.{PassView}
use Rattle.tko_table.specs.History.{HasChangeOf, Replays, made_by}

-- one step of a call: what it read, the step itself, and what the pass knew then
pub record Taken : Type 0 where
  pub read : Observed
  pub step : StepTaken
  pub after : PassView

-- in this state of the core, a turn of this thread takes this step
abbrev pub IsTurn : CoreState → ℕ → StepTaken → Type 0
IsTurn core thread step =
    (happens (record { core = core; past = [] }) (Step thread)).past ≡ Took step ∷ []

-- a step with its number among the steps of its thread
abbrev pub taken_own_step : Taken → OwnStep
taken_own_step taken = record { at = taken.after.steps; step = taken.step }

-- these steps after those, the newest first
abbrev pub and_steps : List OwnStep → List Taken → List OwnStep
and_steps older [] = older
and_steps older (taken ∷ later) = and_steps (taken_own_step taken ∷ older) later

-- the own steps of a call, the newest first
abbrev pub own_steps : List Taken → List OwnStep
own_steps steps = and_steps [] steps

-- a call with these own steps, the newest first, and this answer: a Contended one lost exactly as
-- many tries as the settings allow; and an exchange is won exactly where it finds the word that the
-- last look of its try found
pub record HasTried (s : Settings) (answer : Reply) (steps : List OwnStep) : Type 0 where
  pub contended : answer ≡ Contended → lost_tries s steps ≡ s.tries
  pub expects : ExpectsWhatItSaw s steps

-- the history has a beginning after which the server was as it was found; since then, threads of
-- other numbers made all changes, and one of them changed this server
pub record IsChangedByOthers
    (s : Settings) (number server : ℕ) (found : ServerState) (history : List Change) : Type 0
  where
    pub beginning : List Change
    pub since : List Change
    pub is : history ≡ beginning ++ since
    pub servers : List ServerState
    pub replays : Replays s beginning servers
    pub was : server_at servers server ≡ found
    pub others : made_by number since ≡ []
    pub changed : HasChangeOf server since

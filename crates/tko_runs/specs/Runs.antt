-- Runs: the settings that a core was opened with, the events of its run in order, and the turns
-- that were asked for and did nothing.
use Rattle.std.specs.Prelude.{ℕ, List, [], ◌∷◌, ◌++◌, map, replicate, reverse}
use Rattle.tko_model.specs.Settings.{Settings}
use Rattle.tko_runs.specs.declared.run.event.Event.{Event}
use Rattle.tko_runs.specs.declared.run.event.Event.TheVariants as event
use Rattle.tko_runs.specs.declared.run.event.SkippedTurn.{SkippedTurn}
use Rattle.tko_runs.specs.declared.run.SkippedTurns.{SkippedTurns}
use Rattle.tko_runs.specs.declared.version.Version.{Version}
use Rattle.tko_steps.specs.Runs.{Began, Moment, Took}

-- a turn that was skipped, and the number of events before it
pub record Skip : Type 0 where
  pub after : ℕ
  pub turn : SkippedTurn

pub record RunData : Type 0 where
  -- in whose form it is printed
  pub version : Version
  pub settings : Settings
  pub events : List Event
  pub skips : List Skip

-- the event of a moment of a run of the core
abbrev pub event_of : Moment → Event
event_of (Began thread number op server) = event.Begin thread op server
event_of (Took step) =
    event.Step step.thread step.kind step.place step.found step.left step.answer

-- the events of a past, the oldest first
unfoldable pub events_of : List Moment → List Event
events_of past = reverse (map event_of past)

-- the skipped turns one by one, where each is kept with its count
abbrev pub one_by_one : List SkippedTurns → List Skip
one_by_one [] = []
one_by_one (skip ∷ others) =
    replicate skip.times (record { after = skip.after; turn = skip.turn }) ++ one_by_one others

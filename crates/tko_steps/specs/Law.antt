-- The law of every run: what holds of its calls, its steps and its states.
use Rattle.std.specs.Prelude.{◌≡◌, All}
use Rattle.tko_model.specs.Settings.{Settings}
use Rattle.tko_model.specs.Tracker.{opened}
use Rattle.tko_steps.specs.Core.{abstract_of, settings_of}
use Rattle.tko_steps.specs.Cost.{IsShort}
use Rattle.tko_steps.specs.Invariant.{IsCore}
use Rattle.tko_steps.specs.Kinds.{HaveKinds, NoneIsLost}
use Rattle.tko_steps.specs.Legal.{ChangesAreOwn, ChangesAtMostOnce, IsChain, IsFullAtLimit, IsLegal}
use Rattle.tko_steps.specs.Legal.{IsOwnersAnswer, IsUnderNumber}
use Rattle.tko_steps.specs.Lost.{ExpectsWhatItSaw, HasLostEachTry, LosesToOthers}
use Rattle.tko_steps.specs.Runs.{World, calls_of}
use Rattle.tko_steps.specs.Safe.{AreWithinLimits, CountSlots, HasDistinctNumbers, HasOneResponsible}
use Rattle.tko_steps.specs.Safe.{OwnsItsMarks}

-- the calls of a run under these settings that came to this world
pub record AreSoundCalls (s : Settings) (w : World) : Type 0 where
  -- an answered call has the sequential tracker's reply and change at one of its own steps, or lost
  -- every try and changed nothing; an open call changed nothing, or made that change
  pub legal : All (IsLegal s) (calls_of w.past)
  -- at most one step of a call changes the abstract state
  pub once : All (λ call. ChangesAtMostOnce call.steps) (calls_of w.past)
  -- a call is answered Full only at the limit of its server's group
  pub full : All (IsFullAtLimit s) (calls_of w.past)
  -- a call that finds its thread's own mark is not answered Worn or Contended
  pub owners : All IsOwnersAnswer (calls_of w.past)
  -- a call is under the number that its thread drew
  pub numbers : All (IsUnderNumber w.core) (calls_of w.past)
  -- a call takes no more steps than its operation may take
  pub steps : All (IsShort s) (calls_of w.past)
  -- a call that is answered Contended lost exactly as many tries as the settings allow
  pub lost : All (HasLostEachTry s) (calls_of w.past)
  -- an exchange is won exactly where it finds the word that this try's last look there found
  pub expected : All (λ call. ExpectsWhatItSaw s call.steps) (calls_of w.past)

-- its steps, and those that its threads take next
pub record AreSoundSteps (s : Settings) (w : World) : Type 0 where
  -- the step that a call takes next is of the kind of its phase
  pub kinds : HaveKinds w.core
  -- no step is lost but a count, a mark or a reservation
  pub sure : NoneIsLost w.past
  -- a try is lost to another thread
  pub others : LosesToOthers s w
  -- each step begins in the abstract state in which the one before it ended, the first in the
  -- opened one
  pub chain : IsChain (opened s).servers w.past (abstract_of w.core)
  -- only own steps of calls change the abstract state
  pub changes : ChangesAreOwn w.past

-- the state that it came to
pub record IsSoundState (s : Settings) (w : World) : Type 0 where
  -- no two threads are responsible for one server
  pub responsible : HasOneResponsible w.core
  -- no group has more soft marks than its limit
  pub limit : AreWithinLimits s (abstract_of w.core)
  -- the settings are those that the run opened with
  pub settings : settings_of w.core ≡ s
  -- each phase knows what it needs, marks name numbers that were drawn, and stamps are in range
  pub core : IsCore w.core
  -- the soft word of each group counts its soft marks and the slots that calls hold
  pub slots : CountSlots w.core
  -- a thread owns exactly the servers whose marks name its number
  pub owned : OwnsItsMarks w
  -- each number that was drawn is one thread's, and no other number is any thread's
  pub distinct : HasDistinctNumbers w.core

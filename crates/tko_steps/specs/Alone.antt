-- One thread alone: runs in which no other thread takes a step of a call, and their
-- calls as the sequential tracker does them, one after another.
use Rattle.std.specs.Prelude.{◌≡◌, true, ℕ, List, [], ◌∷◌, ◌⊎◌, All, Option, Some, None}
use Rattle.tko_model.specs.declared.mark.Reply.{Reply}
use Rattle.tko_model.specs.Settings.{Settings}
use Rattle.tko_model.specs.Ranges.{IsWithinRanges}
use Rattle.tko_model.specs.Tracker.{Tracker, after, reply_of}
use Rattle.tko_steps.specs.Core.{is_call_step}
use Rattle.tko_steps.specs.Legal.{ChangesNothing}
use Rattle.tko_steps.specs.Runs.{Turn, Began, RunCall, Moment, Took, World, run}

-- this moment, if it is a step of a call, is one of the thread at this place
abbrev pub IsStepOf : ℕ → Moment → Type 0
IsStepOf thread (Began own number op server) = Unit {0}
IsStepOf thread (Took step) = is_call_step step.kind ≡ true → step.thread ≡ thread

-- what holds after every list of turns in which one thread alone took steps of calls, under all
-- settings in range; other threads may have enrolled, and begun calls that took no step
abbrev pub InEveryRunAlone : (Settings → ℕ → World → Type 0) → Type 0
InEveryRunAlone P =
    (s : Settings) → IsWithinRanges s → (thread : ℕ) (turns : List Turn) →
    All (IsStepOf thread) (run s turns).past → P s thread (run s turns)

-- a call of another thread took no step and has no answer
abbrev pub IsIdleUnlessOf : ℕ → RunCall → Type 0
IsIdleUnlessOf thread call = (call.thread ≡ thread → ⊥) → (call.steps ≡ []) × (call.answer ≡ None)

-- the sequential tracker before and after a call with this answer: an answered call is its
-- operation, with that reply; an open call is its operation where one of its steps changed the
-- abstract state, and nothing where none did
abbrev pub Does : Tracker → RunCall → Option Reply → Tracker → Type 0
Does old call (Some reply) new =
    (reply ≡ reply_of old call.number call.op call.server)
    × (new ≡ after old call.number call.op call.server)
Does old call None new =
    (All ChangesNothing call.steps × (new ≡ old))
    ⊎ ((All ChangesNothing call.steps → ⊥) × (new ≡ after old call.number call.op call.server))

-- from the first tracker to the last, the sequential tracker does these calls, the newest first, in
-- the order of their begins
abbrev pub ReplaysCalls : Tracker → List RunCall → Tracker → Type 0
ReplaysCalls first [] last = last ≡ first
ReplaysCalls first (call ∷ older) last =
    (mid : Tracker) × ReplaysCalls first older mid × Does mid call call.answer last

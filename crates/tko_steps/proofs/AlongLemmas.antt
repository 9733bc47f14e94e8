-- What is kept by the begin of an idle thread's call, by an enrolment and by the step of a call is kept by each turn, and so
-- along a run.
use Rattle.std.proofs.Common.{◌≡◌, ℕ, ◌<◌, List, [], ◌∷◌, length, refl}
use Rattle.tko_model.specs.declared.mark.Op.{Op}
use Rattle.tko_model.specs.Settings.{Settings}
use Rattle.tko_steps.specs.declared.phase.Call.{Call}
use Rattle.tko_steps.specs.declared.phase.Phase.{Phase}
use Rattle.tko_steps.specs.declared.phase.ThreadState.{ThreadState}
use Rattle.tko_steps.specs.declared.phase.ThreadState.TheVariants.{NotEnrolled, Idle, InCall}
use Rattle.tko_steps.specs.Runs.{Begin, Step, Turn, World, after_turns, happens}
use Rattle.tko_steps.specs.Core.{abstract_of, thread_at}
use Rattle.tko_steps.proofs.WiringLemmas.{begun, keeps-begin, keeps-step, stepped_from}

-- the base is what is known of each world beside what is to be kept
module _ (Base P : Settings → World → Type 0) where
  abbrev pub AtBegin : Type 0
  AtBegin = (s : Settings) (w : World) (thread number : ℕ) (op : Op) (server : ℕ) → Base s w → thread < length w.core.threads
      → thread_at w.core thread ≡ Idle number → server < length (abstract_of w.core) → P s w → P s (begun w thread op server)

  abbrev pub AtEnrol : Type 0
  AtEnrol = (s : Settings) (w : World) (thread : ℕ) → Base s w → thread < length w.core.threads
      → thread_at w.core thread ≡ NotEnrolled → P s w → P s (stepped_from w thread NotEnrolled)

  abbrev pub AtAct : Type 0
  AtAct = (s : Settings) (w : World) (thread : ℕ) (call : Call) (phase : Phase) → Base s w → thread < length w.core.threads
      → thread_at w.core thread ≡ InCall call phase → P s w → P s (stepped_from w thread (InCall call phase))

  module _ (at_begin : AtBegin) (at_enrol : AtEnrol) (at_act : AtAct) where
    along-step : (s : Settings) (w : World) (thread : ℕ) (state : ThreadState) → Base s w → thread < length w.core.threads
        → thread_at w.core thread ≡ state → P s w → P s (stepped_from w thread state)
    along-step s w thread NotEnrolled base inside stands holds = at_enrol s w thread base inside stands holds
    along-step s w thread (Idle number) base inside stands holds = holds
    along-step s w thread (InCall call phase) base inside stands holds = at_act s w thread call phase base inside stands holds

    pub along-turn : (s : Settings) (w : World) (turn : Turn) → Base s w → P s w → P s (happens w turn)
    along-turn s w (Begin thread op server) base holds =
        keeps-begin (P s) w thread op server holds
        (λ number inside stands on_server. at_begin s w thread number op server base inside stands on_server holds)
    along-turn s w (Step thread) base holds =
        keeps-step (P s) w thread holds
        (λ inside. along-step s w thread (thread_at w.core thread) base inside refl holds)

-- what each turn keeps
pub along-turns : (P : Settings → World → Type 0) → ((s : Settings) (w : World) (turn : Turn) → P s w → P s (happens w turn))
    → (s : Settings) (w : World) (turns : List Turn) → P s w → P s (after_turns w turns)
along-turns P keeps s w [] holds = holds
along-turns P keeps s w (turn ∷ turns) holds = along-turns P keeps s (happens w turn) turns (keeps s w turn holds)

-- The law of every call of a run: what is known of each call and thread is kept by each turn, for one family of facts and for a further one.
use Rattle.std.proofs.Common.{ℕ, List, All, sym, subst}
use Rattle.std.proofs.lemmas.List.Elements.{All-nil}
use Rattle.tko_model.specs.Settings.{Settings}
use Rattle.tko_model.specs.Tracker.{server_at}
use Rattle.tko_steps.specs.declared.phase.Call.{Call as CallState}
use Rattle.tko_steps.specs.declared.phase.Phase.{Phase}
use Rattle.tko_steps.specs.declared.phase.ThreadState.TheVariants.{NotEnrolled, Idle, InCall}
use Rattle.tko_steps.specs.declared.table.Decision.{Decision}
use Rattle.tko_steps.specs.declared.table.Decision.TheVariants.{Goes, Answers}
use Rattle.tko_model.specs.Ranges.{IsWithinRanges}
use Rattle.tko_steps.specs.Runs.{Turn, RunCall, InEveryRun, OwnStep, StepTaken, World, calls_of, happens, run, start_world}
use Rattle.tko_steps.specs.Core.{abstract_of, after_act, follows}
use Rattle.tko_steps.specs.Legal.{ChangesNothing}
use Rattle.tko_steps.specs.Table.{action_of}
use Rattle.tko_steps.proofs.PhaseStepLemmas.{knows_at}
use Rattle.tko_steps.proofs.LegalLemmas.{IsSoundCall}
use Rattle.tko_steps.proofs.SoFarLemmas.{Knows, Knows-kept, Told, sound-open, with_decision}
use Rattle.tko_steps.proofs.OwnLemmas.{act_step}
use Rattle.tko_steps.proofs.AlongLemmas.{AtAct, AtBegin, AtEnrol, along-turn, along-turns}
use Rattle.tko_steps.proofs.FamilyLemmas.{Acts, Follows, InFamily, InFamily-start, InFamily-turn, IsEnough, KeptAtBegin, KeptAtStep, Opens, act_own}
use Rattle.tko_steps.proofs.RunLemmas.{Holds, Holds-start, Holds-turn}
use Rattle.tko_steps.proofs.WiringLemmas.{stepped_from}
use Rattle.tko_steps.proofs.EveryCallLemmas.{step-on, told-act}

-- ---- calls and threads

-- what is known of a call in this world
abbrev pub KnowsCall : Settings → World → ℕ → CallState → List OwnStep → Phase → Type 0
KnowsCall s w thread call steps phase = Knows s thread call steps (server_at (abstract_of w.core) call.server) phase

-- what its own step leaves a call with, in the world after it
follows-told : (s : Settings) (new : World) (thread : ℕ) (call : CallState) (steps : List OwnStep) (at : ℕ) (base : StepTaken) (decision : Decision)
    → Told s thread call steps at base (server_at (abstract_of new.core) call.server) decision
    → Follows s (KnowsCall s) (IsSoundCall s) new thread call steps (with_decision at base decision) decision
follows-told s new thread call steps at base (Goes lost phase) told = told
follows-told s new thread call steps at base (Answers answer) told = told

call-acts : (s : Settings) → Acts s (KnowsCall s) (IsSoundCall s) (Holds s)
call-acts s w thread call steps phase holds inside stands found knows =
    let own = act_own w thread call phase in
    let base = act_step w.core thread call phase in
    let new = stepped_from w thread (InCall call phase) in
    let now = server_at (abstract_of w.core) call.server in
    let decision = follows w.core call phase in
    let P : Settings → Type 0 = λ it. Knows it thread call steps now phase in
    let Q : Settings → Type 0 = λ it. Told it thread call steps own.at base (server_at (abstract_of new.core) call.server) decision in
    let told = told-act w.core thread call holds.core inside steps own.at phase stands (subst P (sym holds.settings) knows) in
    follows-told s new thread call steps own.at base decision (subst Q holds.settings told)

call-kept : (s : Settings) → KeptAtStep s (KnowsCall s) (IsSoundCall s) (Holds s)
call-kept s w thread other NotEnrolled call steps phase holds inside at here apart knows = knows
call-kept s w thread other (Idle number) call steps phase holds inside at here apart knows = knows
call-kept s w thread other (InCall by to) call steps phase holds inside at here apart knows =
    let new = after_act w.core other by to in
    Knows-kept s thread call steps (server_at (abstract_of w.core) call.server) (server_at (abstract_of new) call.server) phase
    (step-on (abstract_of w.core) by.server (action_of by.number to) (knows_at w.core other by holds.core inside to at).0 call.server) knows

-- what holds of the calls in each run
abbrev pub HoldsCalls : Settings → World → Type 0
HoldsCalls s w = InFamily s (KnowsCall s) (IsSoundCall s) w

HoldsCalls-turn : (s : Settings) (w : World) (turn : Turn) → Holds s w → HoldsCalls s w → HoldsCalls s (happens w turn)
HoldsCalls-turn s =
    InFamily-turn s (KnowsCall s) (IsSoundCall s) (Holds s)
    (λ w thread number op server holds stands. All-nil ChangesNothing)
    (λ w thread call steps phase knows. sound-open s thread call steps (server_at (abstract_of w.core) call.server) phase knows)
    (call-acts s)
    (λ w thread other op server call steps phase knows. knows)
    (call-kept s)

-- the law of each state and that of each call
abbrev pub HoldsBoth : Settings → World → Type 0
HoldsBoth s w = Holds s w × HoldsCalls s w

pub HoldsBoth-happens : (s : Settings) (w : World) (turn : Turn) → HoldsBoth s w → HoldsBoth s (happens w turn)
HoldsBoth-happens s w turn both = (Holds-turn s w turn both.0, HoldsCalls-turn s w turn both.0 both.1)

pub HoldsBoth-start : (s : Settings) → IsWithinRanges s → HoldsBoth s (start_world s)
HoldsBoth-start s ranges = (Holds-start s ranges, InFamily-start s (KnowsCall s) (IsSoundCall s))

pub HoldsBoth-run : InEveryRun HoldsBoth
HoldsBoth-run s ranges turns = along-turns HoldsBoth HoldsBoth-happens s (start_world s) turns (HoldsBoth-start s ranges)

pub SoundCalls-run : InEveryRun (λ s w. All (IsSoundCall s) (calls_of w.past))
SoundCalls-run s ranges turns = (HoldsBoth-run s ranges turns).1.calls

-- what begins, enrolments and steps of calls keep holds in every run
pub along : (P : Settings → World → Type 0) → ((s : Settings) → IsWithinRanges s → P s (start_world s))
    → AtBegin HoldsBoth P → AtEnrol HoldsBoth P → AtAct HoldsBoth P → InEveryRun P
along P opens at_begin at_enrol at_act = λ s ranges turns.
    (along-turns (λ it w. HoldsBoth it w × P it w)
    (λ it w turn all. (HoldsBoth-happens it w turn all.0, along-turn HoldsBoth P at_begin at_enrol at_act it w turn all.0 all.1))
    s (start_world s) turns (HoldsBoth-start s ranges, opens s ranges)).1

-- a further family of facts about calls
module _ (s : Settings) (K : World → ℕ → CallState → List OwnStep → Phase → Type 0) (P : RunCall → Type 0)
    (opens : Opens s K P (HoldsBoth s)) (enough : IsEnough s K P) (acts : Acts s K P (HoldsBoth s)) (at_begin : KeptAtBegin s K P)
    (at_step : KeptAtStep s K P (HoldsBoth s)) where
  pub InFamily-run : IsWithinRanges s → (turns : List Turn) → HoldsBoth s (run s turns) × InFamily s K P (run s turns)
  InFamily-run ranges turns =
      along-turns (λ it w. HoldsBoth s w × InFamily s K P w)
      (λ it w turn all. (HoldsBoth-happens s w turn all.0, InFamily-turn s K P (HoldsBoth s) opens enough acts at_begin at_step w turn all.0 all.1))
      s (start_world s) turns (HoldsBoth-start s ranges, InFamily-start s K P)

-- The abstract states of a run follow one another, and only own steps of calls change them.
use Rattle.std.proofs.Common.{◌≡◌, ℕ, ◌<◌, length, inl, inr, refl}
use Rattle.tko_model.specs.Settings.{Settings}
use Rattle.tko_model.specs.Tracker.{opened}
use Rattle.tko_steps.specs.declared.phase.Call.{Call}
use Rattle.tko_steps.specs.declared.phase.Phase.{Phase}
use Rattle.tko_steps.specs.declared.phase.ThreadState.TheVariants.{InCall}
use Rattle.tko_steps.specs.Runs.{InEveryRun, World, calls_of, own_step}
use Rattle.tko_steps.specs.Core.{abstract_of, thread_at}
use Rattle.tko_steps.specs.Legal.{ChangesAreOwn, IsChain}
use Rattle.tko_steps.proofs.CallLemmas.{IsNewestStep-with_step}
use Rattle.tko_steps.proofs.EveryTurnLemmas.{HoldsBoth, along}
use Rattle.tko_steps.proofs.LegalLemmas.{open_call}
use Rattle.tko_steps.proofs.OwnLemmas.{act_step}
use Rattle.tko_steps.proofs.WiringLemmas.{stepped_from}

-- each step of the past begins where the one before it ended
pub IsChain-run : InEveryRun (λ s w. IsChain (opened s).servers w.past (abstract_of w.core))
IsChain-run =
    along (λ s w. IsChain (opened s).servers w.past (abstract_of w.core))
    (λ s ranges. refl)
    (λ s w thread number op server both inside stands on_server chain. chain)
    (λ s w thread both inside stands chain. (refl, chain))
    (λ s w thread call phase both inside stands chain. (refl, chain))

-- each change is an own step of a call
changes-act : (s : Settings) (w : World) (thread : ℕ) (call : Call) (phase : Phase) → HoldsBoth s w → thread < length w.core.threads
    → thread_at w.core thread ≡ InCall call phase → ChangesAreOwn w.past → ChangesAreOwn (stepped_from w thread (InCall call phase)).past
changes-act s w thread call phase both inside stands changes =
    let mine = rw stands at (both.1.stand thread) in
    let own = own_step (act_step w.core thread call phase) w.past in
    (inr (IsNewestStep-with_step own (open_call thread call mine.0) (calls_of w.past) mine.1), changes)

pub ChangesAreOwn-run : InEveryRun (λ s w. ChangesAreOwn w.past)
ChangesAreOwn-run =
    along (λ s w. ChangesAreOwn w.past)
    (λ s ranges. tt)
    (λ s w thread number op server both inside stands on_server changes. changes)
    (λ s w thread both inside stands changes. (inl refl, changes))
    changes-act

-- The numbers of steps: each step keeps what its phase says of how many its call took.
use Rattle.std.proofs.Common.{◌≡◌, ℕ, suc, ◌+◌, ◌*◌, ◌<◌, ◌≤◌, cond, eqb, List, length, All, refl, sym, subst, arith}
use Rattle.std.proofs.lemmas.Bool.{cond_both, eqb-false}
use Rattle.tko_model.specs.declared.mark.Op.TheVariants.{SoftFailure}
use Rattle.tko_model.specs.declared.mark.Reply.TheVariants.{Contended, Full}
use Rattle.tko_model.specs.Settings.{Settings}
use Rattle.tko_model.specs.declared.state.ServerState.{ServerState}
use Rattle.tko_model.specs.Tracker.{server_at}
use Rattle.tko_steps.specs.declared.phase.Call.{Call as CallState}
use Rattle.tko_steps.specs.declared.phase.Phase.{Phase}
use Rattle.tko_steps.specs.declared.phase.Phase.TheVariants.{Start, Read, AtThreshold, Limit, Reserving, Holding, Firming, Losing, Loosening, Loosened, Emptied}
use Rattle.tko_steps.specs.declared.phase.ThreadState.TheVariants.{InCall}
use Rattle.tko_steps.specs.declared.table.Decision.{Decision}
use Rattle.tko_steps.specs.declared.table.Decision.TheVariants.{Goes, Answers}
use Rattle.tko_steps.specs.Core.{Shared, follows, word_at, slots_at}
use Rattle.tko_steps.specs.Cost.{IsShort, most_steps}
use Rattle.tko_steps.specs.Invariant.{IsThread}
use Rattle.tko_steps.specs.Steps.{decided_answer, decided_by, place_of}
use Rattle.tko_steps.specs.Runs.{InEveryRun, OwnStep, World, calls_of}
use Rattle.tko_steps.specs.Table.{action_of, goes, lost_try, same_server, same_slots}
use Rattle.tko_steps.proofs.PhaseStepLemmas.{knows_at}
use Rattle.tko_steps.proofs.EveryTurnLemmas.{InFamily-run}
use Rattle.tko_steps.proofs.FamilyLemmas.{Follows, act_own}
use Rattle.tko_steps.proofs.StartLemmas.{from_start-is}
use Rattle.tko_steps.proofs.TableLemmas.{eq-same_server}
use Rattle.tko_steps.proofs.WiringLemmas.{stepped_from}
use Rattle.tko_model.specs.Groups.{group_of, limit_at}
use Rattle.tko_steps.proofs.CostLemmas.{CostAfter, Fits, KnowsCost, cost-begin, depth, ends-any, ends-loosen, ends-read, ends-soft, loses-read, loses-soft, one-more, own-hard, per_try}

module _ (s : Settings) (shared : Shared) (call : CallState) (taken : ℕ) where
  abbrev now : ServerState
  now = server_at shared.servers call.server

  abbrev Next : Decision → Type 0
  Next decision = CostAfter s call (suc taken) decision

  -- the try goes on
  goes-on : (phase next : Phase) → KnowsCost s call taken phase → depth next ≡ depth phase + 1 → Fits call.op call.number next
      → KnowsCost s call (suc taken) next
  goes-on phase next knows deeper fits =
      record {
        few = rw deeper (one-more (per_try call.op * call.lost) taken (depth phase) knows.few);
        left = knows.left;
        fits = fits;
      }

  -- the try is lost
  loses : call.lost < s.tries → suc taken ≤ per_try call.op * (call.lost + 1) + 0
      → suc taken ≤ most_steps s call.op → Next (lost_try s call)
  loses left few short =
      cond_both (eqb s.tries (call.lost + 1)) (Answers Contended) (Goes (call.lost + 1) Start) Next
      (λ last. short)
      (λ more. let apart = eqb-false s.tries (call.lost + 1) more in
      record { few = few; left = omega (arith, left, apart); fits = tt })

  loses-its : (phase : Phase) → KnowsCost s call taken phase → call.op ≡ SoftFailure → depth phase ≤ 4 → Next (lost_try s call)
  loses-its phase knows soft deep =
      loses knows.left
      (loses-soft call.op taken call.lost (depth phase) soft deep knows.few)
      (ends-soft s call.op taken call.lost (depth phase) soft deep knows.few knows.left)

  pub cost-act : (phase : Phase) → IsThread s shared.servers (InCall call phase) → KnowsCost s call taken phase
      → Next (decided_by s call phase (word_at shared (place_of s call.server (action_of call.number phase))))
  cost-act Start here knows =
      from_start-is s call now Next
      (λ answer is_answer is. ends-any s call.op taken call.lost knows.few knows.left)
      (λ soft fresh is. goes-on Start (AtThreshold now) knows refl soft)
      (λ mark answer put can by is. goes-on Start (Read now mark answer) knows refl can)
      (λ mark answer put can own is. goes-on Start (Loosening now mark answer) knows refl can)
  cost-act (Read found mark answer) here knows =
      let phase : Phase = Read found mark answer in
      let by = here.2.1 in
      let short = ends-read s call.op call.number found.mark taken call.lost knows.fits knows.few knows.left in
      cond_both (same_server now found) (Answers answer) (lost_try s call) Next
      (λ won. short)
      (λ lost.
      loses knows.left
      (loses-read call.op call.number found.mark taken call.lost knows.fits
      (λ hard. let same = eq-same_server now found (own-hard call.number now found found.mark hard by) in cc) knows.few) short)
  cost-act (AtThreshold found) here knows =
      let phase : Phase = AtThreshold found in
      let slots = slots_at shared.slots (group_of s call.server) in
      let rest = cond (eqb (slots.firm + slots.held) (limit_at s call.server)) (lost_try s call) (goes call (Reserving found slots)) in
      cond_both (eqb slots.firm (limit_at s call.server)) (goes call (Limit found)) rest Next
      (λ full. goes-on phase (Limit found) knows refl knows.fits)
      (λ below. cond_both (eqb (slots.firm + slots.held) (limit_at s call.server)) (lost_try s call) (goes call (Reserving found slots)) Next
      (λ held. loses-its phase knows knows.fits (omega arith))
      (λ left. goes-on phase (Reserving found slots) knows refl knows.fits))
  cost-act (Limit found) here knows =
      let phase : Phase = Limit found in
      cond_both (same_server found now) (Answers Full) (lost_try s call) Next
      (λ same. ends-soft s call.op taken call.lost 2 knows.fits (omega arith) knows.few knows.left)
      (λ other. loses-its phase knows knows.fits (omega arith))
  cost-act (Reserving found before) here knows =
      let phase : Phase = Reserving found before in
      cond_both (same_slots (slots_at shared.slots (group_of s call.server)) before) (goes call (Holding found)) (lost_try s call) Next
      (λ won. goes-on phase (Holding found) knows refl knows.fits)
      (λ lost. loses-its phase knows knows.fits (omega arith))
  cost-act (Holding found) here knows =
      let phase : Phase = Holding found in
      cond_both (same_server now found) (goes call Firming) (goes call Losing) Next
      (λ won. goes-on phase Firming knows refl knows.fits)
      (λ lost. goes-on phase Losing knows refl knows.fits)
  cost-act Firming here knows = ends-soft s call.op taken call.lost 4 knows.fits (omega arith) knows.few knows.left
  cost-act Losing here knows = loses-its Losing knows knows.fits (omega arith)
  cost-act (Loosening found mark answer) here knows =
      goes-on (Loosening found mark answer) (Loosened found mark answer) knows refl knows.fits
  cost-act (Loosened found mark answer) here knows = goes-on (Loosened found mark answer) (Emptied answer) knows refl knows.fits
  cost-act (Emptied answer) here knows = ends-loosen s call.op taken call.lost 3 knows.fits (omega arith) knows.few knows.left

-- an open call took fewer than it may
pub cost-open : (s : Settings) (call : CallState) (taken : ℕ) (phase : Phase) → KnowsCost s call taken phase → taken < most_steps s call.op
cost-open s call taken Start knows = ends-any s call.op taken call.lost knows.few knows.left
cost-open s call taken (Read found mark answer) knows =
    ends-read s call.op call.number found.mark taken call.lost knows.fits knows.few knows.left
cost-open s call taken (AtThreshold found) knows = ends-soft s call.op taken call.lost 1 knows.fits (omega arith) knows.few knows.left
cost-open s call taken (Limit found) knows = ends-soft s call.op taken call.lost 2 knows.fits (omega arith) knows.few knows.left
cost-open s call taken (Reserving found slots) knows = ends-soft s call.op taken call.lost 2 knows.fits (omega arith) knows.few knows.left
cost-open s call taken (Holding found) knows = ends-soft s call.op taken call.lost 3 knows.fits (omega arith) knows.few knows.left
cost-open s call taken Firming knows = ends-soft s call.op taken call.lost 4 knows.fits (omega arith) knows.few knows.left
cost-open s call taken Losing knows = ends-soft s call.op taken call.lost 4 knows.fits (omega arith) knows.few knows.left
cost-open s call taken (Loosening found mark answer) knows =
    ends-loosen s call.op taken call.lost 1 knows.fits (omega arith) knows.few knows.left
cost-open s call taken (Loosened found mark answer) knows =
    ends-loosen s call.op taken call.lost 2 knows.fits (omega arith) knows.few knows.left
cost-open s call taken (Emptied answer) knows = ends-loosen s call.op taken call.lost 3 knows.fits (omega arith) knows.few knows.left

-- the same along a run
follows-cost : (s : Settings) (new : World) (thread : ℕ) (call : CallState) (steps : List OwnStep) (own : OwnStep) (decision : Decision)
    → own.step.answer ≡ decided_answer decision → CostAfter s call (suc (length steps)) decision
    → Follows s (λ at who one taken phase. KnowsCost s one (length taken) phase) (IsShort s) new thread call steps own decision
follows-cost s new thread call steps own (Goes lost phase) answers costs = costs
follows-cost s new thread call steps own (Answers answer) answers costs = (costs, λ none. cc)

pub ShortCalls-run : InEveryRun (λ s w. All (IsShort s) (calls_of w.past))
ShortCalls-run s ranges turns =
    (InFamily-run s (λ at thread call steps phase. KnowsCost s call (length steps) phase) (IsShort s)
    (λ w thread number op server both stands. cost-begin s number op server ranges)
    (λ w thread call steps phase knows.
    let more = cost-open s call (length steps) phase knows in
    let most : length steps ≤ most_steps s call.op = omega (arith, more) in (most, λ open_yet. more))
    (λ w thread call steps phase both inside stands found knows.
    let P : Settings → Type 0 = λ it. KnowsCost it call (length steps) phase in
    let Q : Settings → Type 0 = λ it.
    Follows it (λ at who one taken after. KnowsCost it one (length taken) after) (IsShort it) (stepped_from w thread (InCall call phase)) thread call steps
    (act_own w thread call phase) (follows w.core call phase) in
    subst Q both.0.settings
    (follows-cost w.core.settings (stepped_from w thread (InCall call phase)) thread call steps (act_own w thread call phase) (follows w.core call phase) refl
    (cost-act w.core.settings w.core.shared call (length steps) phase (knows_at w.core thread call both.0.core inside phase stands)
    (subst P (sym both.0.settings) knows))))
    (λ w thread other op server call steps phase knows. knows)
    (λ w thread other state call steps phase both inside at here apart knows. knows)
    ranges turns).1.calls

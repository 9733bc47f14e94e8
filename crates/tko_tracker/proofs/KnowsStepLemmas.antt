-- What is known of a call is kept by the step from each phase, or says enough of its answer.
use Rattle.std.proofs.Common.{◌≡◌, ℕ, ◌+◌, ◌*◌, ◌<◌, ◌≤◌, Bool, true, false, cond, eqb, List, Some}
use Rattle.std.proofs.Common.{refl, sym, ap, ◌∙◌, subst, arith}
use Rattle.std.proofs.lemmas.Bool.{cond-true, cond_both, eqb-false}
use Rattle.tko_model.specs.declared.mark.Mark.{Mark}
use Rattle.tko_model.specs.declared.mark.Mark.TheVariants.{Soft}
use Rattle.tko_model.specs.declared.mark.Op.TheVariants.{SoftFailure}
use Rattle.tko_model.specs.declared.mark.Reply.{Reply}
use Rattle.tko_model.specs.declared.mark.Reply.TheVariants as reply
use Rattle.tko_model.specs.Settings.{Settings}
use Rattle.tko_model.specs.declared.state.ServerState.{ServerState}
use Rattle.tko_model.specs.Ranges.{IsWithinRanges}
use Rattle.tko_model.specs.Tracker.{server_at}
use Rattle.tko_steps.specs.declared.phase.Call.{Call}
use Rattle.tko_steps.specs.declared.phase.Phase.{Phase}
use Rattle.tko_steps.specs.declared.phase.Phase.TheVariants.{Start, Read, AtThreshold, Limit}
use Rattle.tko_steps.specs.declared.phase.Phase.TheVariants.{Reserving, Holding, Firming, Losing}
use Rattle.tko_steps.specs.declared.phase.Phase.TheVariants.{Loosening, Loosened, Emptied}
use Rattle.tko_steps.specs.declared.table.Action.TheVariants as action
use Rattle.tko_steps.specs.declared.table.Decision.{Decision}
use Rattle.tko_steps.specs.declared.table.Decision.TheVariants.{Goes, Answers}
use Rattle.tko_steps.specs.declared.table.Observed.TheVariants as seen
use Rattle.tko_steps.specs.Core.{Shared, seen_by, slots_at}
use Rattle.tko_steps.specs.Cost.{most_steps}
use Rattle.tko_steps.specs.Steps.{is_done, is_marked_state}
use Rattle.tko_steps.specs.Table.{action_of, goes, lost_try, next_of, same_server, same_slots}
use Rattle.tko_steps.proofs.CostLemmas.{depth, per_try}
use Rattle.tko_table.specs.Passes.{is_marked_by, owned_after_action, owned_with, owns}
use Rattle.tko_table.specs.Steps.{IsSound}
use Rattle.tko_tracker.specs.Calls.{can_answer, owned_left}
use Rattle.tko_model.specs.Groups.{group_of, limit_at}
use Rattle.tko_tracker.proofs.KnowsLemmas.{Knows, KnowsAfter}
use Rattle.tko_tracker.proofs.KnowsStartLemmas.{goes-on, start-mark}
use Rattle.tko_tracker.proofs.StepNumberLemmas.{contends, deep, left-lost, more-read, more-soft}
use Rattle.tko_tracker.proofs.StepNumberLemmas.{short-give, short-read, short-soft}

-- ---- the step from each phase
module _ (s : Settings) (ranges : IsWithinRanges s) (first : ℕ) (base : List ℕ) (call : Call)
    (within : call.number < s.threads) (steps : ℕ) (owned : List ℕ) where
  abbrev Next : Phase → Decision → List ℕ → Type 0
  Next phase decision now = KnowsAfter s first base call phase decision (steps + 1) now

  -- the try is lost
  loses : (phase : Phase) (now : List ℕ) → call.lost < s.tries
      → steps + 1 ≤ first + (per_try call.op * (call.lost + 1) + 0)
      → steps + 1 ≤ first + most_steps s call.op → now ≡ base
      → can_answer call.op reply.Contended ≡ true → (owns base call.server ≡ true → ⊥)
      → Next phase (lost_try s call) now
  loses phase now less few short same allowed none =
      cond_both (eqb s.tries (call.lost + 1)) (Answers reply.Contended) (Goes (call.lost + 1) Start)
      (λ it. Next phase it now)
      (λ last. record {
        few = short;
        allowed = allowed;
        leaves = same;
        owner = λ own. absurd (none own);
      })
      (λ more.
      let apart = eqb-false s.tries (call.lost + 1) more in (
        record {
          lost = omega (arith, less, apart);
          few = few;
          at = same;
          writes = tt;
          owner = λ own. tt;
        },
        left-lost s.tries call.lost (depth phase) less (deep phase),
      ))

  loses-soft : (phase : Phase) → Knows s first base call phase steps owned → call.op ≡ SoftFailure
      → owned ≡ base
      → (owns base call.server ≡ true → ⊥) → Next phase (lost_try s call) owned
  loses-soft phase knows soft same none =
      loses phase owned knows.lost
      (more-soft call.op first steps call.lost (depth phase) soft (deep phase) knows.few)
      (short-soft s call.op first steps call.lost (depth phase) soft
      (deep phase) knows.few knows.lost) same
      (ap (λ op. can_answer op reply.Contended) soft) none

  ends-soft : (phase : Phase) (answer : Reply) → Knows s first base call phase steps owned
      → call.op ≡ SoftFailure
      → can_answer SoftFailure answer ≡ true → owned ≡ owned_left answer call.server base
      → (owns base call.server ≡ true → ⊥) → Next phase (Answers answer) owned
  ends-soft phase answer knows soft allowed same none =
      record {
        few = short-soft s call.op first steps call.lost (depth phase) soft
            (deep phase) knows.few knows.lost;
        allowed = ap (λ op. can_answer op answer) soft ∙ allowed;
        leaves = same;
        owner = λ own. absurd (none own);
      }

  -- every step
  abbrev pub StepNext : Shared → Phase → Type 0
  StepNext shared phase =
      let it = seen_by s shared call.server (action_of call.number phase) in
      Next phase (next_of s call phase it)
      (owned_after_action owned call.server (action_of call.number phase) (is_done it))

  exchanges : (won : Bool) (phase : Phase) (mark : Mark) (yes_then no_then : Decision)
      → (won ≡ true → Next phase yes_then (owned_with owned call.server mark))
      → (won ≡ false → Next phase no_then owned)
      → Next phase (cond won yes_then no_then) (cond won (owned_with owned call.server mark) owned)
  exchanges true phase mark yes_then no_then one other = one refl
  exchanges false phase mark yes_then no_then one other = other refl

  pub knows-next : (shared : Shared) (phase : Phase)
      → IsSound s call.server (seen_by s shared call.server (action_of call.number phase))
      → ((found : ServerState) (mark : Mark) → action_of call.number phase
      ≡ action.Exchange found mark → is_marked_state found.mark ≡ true
      → seen_by s shared call.server (action_of call.number phase) ≡ seen.Done true)
      → Knows s first base call phase steps owned → owns owned call.server
      ≡ is_marked_by (Some call.number) (server_at shared.servers call.server).mark
      → StepNext shared phase
  knows-next shared Start sound sure knows own =
      let now = server_at shared.servers call.server in
      start-mark s ranges first base call within steps owned now sound knows own now.mark refl
  knows-next shared (Read found mark answer) sound sure knows own =
      let phase : Phase = Read found mark answer in
      let won = same_server (server_at shared.servers call.server) found in
      let short =
      short-read s call.op found.mark first steps call.lost knows.at.1 knows.few knows.lost in
      exchanges won phase mark (Answers answer) (lost_try s call)
      (λ did. record {
        few = short;
        allowed = knows.at.2.allowed;
        leaves = ap (λ it. owned_with it call.server mark) knows.at.0
            ∙ knows.at.2.owned call.server base;
        owner = λ had. (knows.owner had).1;
      })
      (λ lost.
      let apart : is_marked_state found.mark ≡ true → ⊥ = λ marked. let e =
      sure found mark refl marked in let both : won ≡ true = cc in cc in
      loses phase owned knows.lost (more-read call.op found.mark first steps call.lost knows.at.1
      apart knows.few) short knows.at.0
      (contends call.op found.mark knows.at.1 apart) (λ had. apart (knows.owner had).0))
  knows-next shared (AtThreshold found) sound sure knows own =
      let phase : Phase = AtThreshold found in
      let slots = slots_at shared.slots (group_of s call.server) in
      let rest = cond (eqb (slots.firm + slots.held) (limit_at s call.server)) (lost_try s call)
      (goes call (Reserving found slots)) in
      cond_both (eqb slots.firm (limit_at s call.server)) (goes call (Limit found)) rest
      (λ it. Next phase it owned)
      (λ full. goes-on phase (Limit found) owned knows refl (omega arith) knows.at tt knows.owner)
      (λ below. cond_both (eqb (slots.firm + slots.held) (limit_at s call.server)) (lost_try s call)
      (goes call (Reserving found slots)) (λ it. Next phase it owned)
      (λ held. loses-soft phase knows knows.at.0 knows.at.1 knows.owner)
      (λ free. goes-on phase (Reserving found slots) owned knows refl
      (omega arith) knows.at knows.writes knows.owner))
  knows-next shared (Limit found) sound sure knows own =
      let phase : Phase = Limit found in
      let now = server_at shared.servers call.server in
      cond_both (same_server found now) (Answers reply.Full) (lost_try s call)
      (λ it. Next phase it owned)
      (λ same. ends-soft phase reply.Full knows knows.at.0 refl knows.at.1 knows.owner)
      (λ other. loses-soft phase knows knows.at.0 knows.at.1 knows.owner)
  knows-next shared (Reserving found slots) sound sure knows own =
      let phase : Phase = Reserving found slots in
      cond_both (same_slots (slots_at shared.slots (group_of s call.server)) slots)
      (goes call (Holding found)) (lost_try s call) (λ it. Next phase it owned)
      (λ won. goes-on phase (Holding found) owned knows refl
      (omega arith) knows.at knows.writes knows.owner)
      (λ lost. loses-soft phase knows knows.at.0 knows.at.1 knows.owner)
  knows-next shared (Holding found) sound sure knows own =
      let phase : Phase = Holding found in
      let won = same_server (server_at shared.servers call.server) found in
      exchanges won phase (Soft call.number) (goes call Firming) (goes call Losing)
      (λ did. goes-on phase Firming (owned_with owned call.server (Soft call.number)) knows refl
      (omega arith)
      (knows.at.0, ap (λ it. owned_with it call.server (Soft call.number)) knows.at.1) tt
      knows.owner)
      (λ lost. goes-on phase Losing owned knows refl (omega arith) knows.at tt knows.owner)
  knows-next shared Firming sound sure knows own =
      ends-soft Firming reply.TookSoft knows knows.at.0 refl knows.at.1 knows.owner
  knows-next shared Losing sound sure knows own =
      loses-soft Losing knows knows.at.0 knows.at.1 knows.owner
  knows-next shared (Loosening found mark answer) sound sure knows own =
      goes-on (Loosening found mark answer) (Loosened found mark answer) owned knows refl
      (omega arith) knows.at knows.writes knows.owner
  knows-next shared (Loosened found mark answer) sound sure knows own =
      let phase : Phase = Loosened found mark answer in
      let now = owned_with owned call.server mark in
      let done : same_server (server_at shared.servers call.server) found ≡ true = let e =
      sure found mark refl knows.at.3 in cc in
      let is : cond (same_server (server_at shared.servers call.server) found) now owned ≡ now =
      cond-true _ _ _ done in
      subst (λ it. Next phase (goes call (Emptied answer)) it) (sym is)
      (goes-on phase (Emptied answer) now knows refl (omega arith) (
        ap (λ it. owned_with it call.server mark) knows.at.0 ∙ knows.at.2.owned call.server base,
        knows.at.1,
        knows.at.2.allowed,
      ) tt knows.owner)
  knows-next shared (Emptied answer) sound sure knows own =
      record {
        few = short-give s call.op first steps call.lost knows.at.1 knows.few knows.lost;
        allowed = knows.at.2;
        leaves = knows.at.0;
        owner = knows.owner;
      }

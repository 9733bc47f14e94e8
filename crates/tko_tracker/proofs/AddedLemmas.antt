-- What a call under way has added to the history, and what it then ended with.
use Rattle.std.proofs.Common.{◌≡◌, ◌≢◌, ℕ, ◌+◌, ◌<◌, ◌≤◌, true, false, arith, List, [], ◌∷◌, ◌++◌}
use Rattle.std.proofs.Common.{length, refl, sym, ◌∙◌}
use Rattle.std.proofs.lemmas.List.{append-nil}
use Rattle.tko_model.specs.declared.mark.Mark.{Mark}
use Rattle.tko_model.specs.declared.mark.Op.{Op}
use Rattle.tko_model.specs.declared.mark.Reply.{Reply}
use Rattle.tko_model.specs.declared.mark.Reply.TheVariants.{Contended}
use Rattle.tko_model.specs.Settings.{Settings}
use Rattle.tko_model.specs.declared.state.ServerState.{ServerState}
use Rattle.tko_model.specs.Tracker.{server_at}
use Rattle.tko_steps.specs.declared.phase.Call.{Call}
use Rattle.tko_steps.specs.declared.phase.Phase.{Phase}
use Rattle.tko_steps.specs.declared.phase.Phase.TheVariants.{Start, Read, AtThreshold, Limit}
use Rattle.tko_steps.specs.declared.phase.Phase.TheVariants.{Reserving, Holding, Firming, Losing}
use Rattle.tko_steps.specs.declared.phase.Phase.TheVariants.{Loosening, Loosened, Emptied}
use Rattle.tko_steps.specs.declared.table.Action.TheVariants.{Exchange}
use Rattle.tko_steps.specs.declared.table.Decision.{Decision}
use Rattle.tko_steps.specs.declared.table.Decision.TheVariants.{Goes, Answers}
use Rattle.tko_steps.specs.declared.table.Observed.{Observed}
use Rattle.tko_steps.specs.declared.table.Observed.TheVariants as seen
use Rattle.tko_steps.specs.Core.{Shared, seen_by}
use Rattle.tko_steps.specs.Steps.{is_marked_state}
use Rattle.tko_steps.specs.Table.{action_of, same_server}
use Rattle.tko_table.specs.declared.pass.Change.{Change}
use Rattle.tko_table.specs.declared.pass.PassView.{PassView}
use Rattle.tko_table.specs.History.{changes_in, made_by, made_with}
use Rattle.tko_table.specs.Passes.{pending_at}
use Rattle.tko_table.specs.Rule.{IsPlannedAt}
use Rattle.tko_table.proofs.AddedChangeLemmas.{IsSure}
use Rattle.tko_tracker.specs.History.{IsAnsweredAt}
use Rattle.tko_tracker.proofs.KnowsLemmas.{KnowsAt}
use Rattle.tko_tracker.proofs.PlaceLemmas.{PlaceAt, is_start}
use Rattle.tko_tracker.proofs.SoloLemmas.{SoloAt}

-- what a call at this phase has added, where its pass was the first as it began
pub record HasAdded (s : Settings) (first now : PassView) (call : Call)
    (phase : Phase) : Type 0 where
  pub more : List Change
  pub seen : now.seen ≡ first.seen ++ more
  pub own : made_by call.number more ≡ pending_at call phase
  pub mine : now.mine ≡ first.mine
  pub planned : IsPlannedAt s call phase
  pub place : PlaceAt s call.number call.op call.server first.seen now.seen now.decided_at phase
  pub steps : first.steps ≤ now.steps
  pub later : is_start phase ≡ false → first.steps < now.steps
  pub alone : s.threads ≡ 1 → SoloAt s call.server first.seen now.seen now.decided_at phase

-- the same where the call ended
pub record HasEnded (s : Settings) (first now : PassView) (call : Call)
    (answer : Reply) : Type 0 where
  pub at : ℕ
  pub more : List Change
  pub seen : now.seen ≡ first.seen ++ more
  pub own : made_by call.number more ≡ changes_in call.number (made_with call answer at ∷ [])
  pub mine : now.mine ≡ first.mine ++ made_with call answer at ∷ []
  pub decided : answer ≢ Contended
      → IsAnsweredAt s call.number call.op call.server answer at first.seen now.seen
  pub stepped : first.steps < now.steps
  pub at_once : now.steps ≡ first.steps + 1 → at ≡ length now.seen
  pub alone : s.threads ≡ 1 → (answer ≢ Contended) × (at ≡ length first.seen)

abbrev pub HasAddedAfter : Settings → PassView → PassView → Call → Decision → Type 0
HasAddedAfter s first now call (Goes lost phase) =
    HasAdded s first now (record call { lost = lost }) phase
HasAddedAfter s first now call (Answers answer) = HasEnded s first now call answer

pub added-none : (s : Settings) (first : PassView) (call : Call) → HasAdded s first first call Start
added-none s first call =
    record {
      more = [];
      seen = sym (append-nil first.seen);
      own = refl;
      mine = refl;
      planned = tt;
      place = tt;
      steps = omega arith;
      later = λ e. cc;
      alone = λ one. refl;
    }

-- a thread does not lose the exchange of its own mark
pub sure-at : (s : Settings) (op : Op) (base owned : List ℕ) (call : Call) (shared : Shared)
    (read : Observed) (phase : Phase)
    → KnowsAt op call.server base owned phase
    → read ≡ seen_by s shared call.server (action_of call.number phase)
    → ((found : ServerState) (mark : Mark) → action_of call.number phase ≡ Exchange found mark
    → is_marked_state found.mark ≡ true → read ≡ seen.Done true)
    → IsSure call shared phase
sure-at s op base owned call shared read Start knows reads sure = tt
sure-at s op base owned call shared read (Read found mark answer) knows reads sure = tt
sure-at s op base owned call shared read (AtThreshold found) knows reads sure = tt
sure-at s op base owned call shared read (Limit found) knows reads sure = tt
sure-at s op base owned call shared read (Reserving found slots) knows reads sure = tt
sure-at s op base owned call shared read (Holding found) knows reads sure = tt
sure-at s op base owned call shared read Firming knows reads sure = tt
sure-at s op base owned call shared read Losing knows reads sure = tt
sure-at s op base owned call shared read (Loosening found mark answer) knows reads sure = tt
sure-at s op base owned call shared read (Loosened found mark answer) knows reads sure =
    let both : seen.Done (same_server (server_at shared.servers call.server) found)
    ≡ seen.Done true = sym reads ∙ sure found mark refl knows.3 in cc
sure-at s op base owned call shared read (Emptied answer) knows reads sure = tt

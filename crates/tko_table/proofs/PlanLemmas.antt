-- What a call is about to do stays what the sequential tracker does.
use Rattle.std.proofs.Common.{Bool, cond}
use Rattle.std.proofs.lemmas.Bool.{cond_both}
use Rattle.tko_model.specs.declared.mark.Reply.TheVariants.{Contended, Full}
use Rattle.tko_model.specs.Settings.{Settings}
use Rattle.tko_model.specs.declared.state.ServerState.{ServerState}
use Rattle.tko_steps.specs.declared.phase.Call.{Call}
use Rattle.tko_steps.specs.declared.phase.Phase.{Phase}
use Rattle.tko_steps.specs.declared.phase.Phase.TheVariants.{Start, Read, AtThreshold, Limit}
use Rattle.tko_steps.specs.declared.phase.Phase.TheVariants.{Reserving, Holding, Firming, Losing}
use Rattle.tko_steps.specs.declared.phase.Phase.TheVariants.{Loosening, Loosened, Emptied}
use Rattle.tko_steps.specs.declared.table.Decision.{Decision}
use Rattle.tko_steps.specs.declared.table.Decision.TheVariants.{Goes, Answers}
use Rattle.tko_steps.specs.Core.{Shared, seen_by, slots_at}
use Rattle.tko_steps.specs.Steps.{decided_state}
use Rattle.tko_steps.specs.Table.{action_of, from_start, goes, lost_try, next_of, same_server}
use Rattle.tko_model.specs.Tracker.{server_at}
use Rattle.std.proofs.Common.{eqb, ◌+◌}
use Rattle.tko_steps.proofs.StartLemmas.{from_start-is}
use Rattle.tko_table.specs.Rule.{IsPlanned, IsPlannedAt}
use Rattle.tko_table.proofs.ChangeLemmas.{puts-change}
use Rattle.tko_model.specs.Groups.{group_of, limit_at}

-- what a decision plans
abbrev pub Plans : Settings → Call → Decision → Type 0
Plans s call decision = IsPlanned s (decided_state call decision)

plans-start : (s : Settings) (call : Call) (now : ServerState)
    → Plans s call (from_start s call now)
plans-start s call now =
    from_start-is s call now (Plans s call)
    (λ answer is_answer is. tt) (λ soft fresh is. is) (λ mark answer put can by is. is)
    (λ mark answer put can own is. is)

plans-lost_try : (s : Settings) (call : Call) → Plans s call (lost_try s call)
plans-lost_try s call =
    cond_both (eqb s.tries (call.lost + 1)) (Answers Contended) (Goes (call.lost + 1) Start)
    (Plans s call) (λ last. tt) (λ left. tt)

either : (s : Settings) (call : Call) (test : Bool) (one other : Decision) → Plans s call one
    → Plans s call other
    → Plans s call (cond test one other)
either s call test one other first second =
    cond_both test one other (Plans s call) (λ e. first) (λ e. second)

module _ (s : Settings) (call : Call) (shared : Shared) where
  now : ServerState
  now = server_at shared.servers call.server

  -- what follows the step of this phase on these words
  abbrev pub Follows : Phase → Type 0
  Follows phase = Plans s call
      (next_of s call phase (seen_by s shared call.server (action_of call.number phase)))

  pub plans-next : (phase : Phase) → IsPlannedAt s call phase → Follows phase
  plans-next Start planned = plans-start s call (server_at shared.servers call.server)
  plans-next (Read found mark answer) planned =
      either s call (same_server (server_at shared.servers call.server) found) (Answers answer)
      (lost_try s call) tt (plans-lost_try s call)
  plans-next (AtThreshold found) planned =
      either s call (eqb (slots_at shared.slots (group_of s call.server)).firm
      (limit_at s call.server)) (goes call (Limit found))
      (cond (eqb ((slots_at shared.slots (group_of s call.server)).firm + (slots_at shared.slots
      (group_of s call.server)).held) (limit_at s call.server)) (lost_try s call)
      (goes call (Reserving found (slots_at shared.slots (group_of s call.server)))))
      planned
      (either s call (eqb ((slots_at shared.slots (group_of s call.server)).firm
      + (slots_at shared.slots (group_of s call.server)).held) (limit_at s call.server))
      (lost_try s call)
      (goes call (Reserving found (slots_at shared.slots (group_of s call.server))))
      (plans-lost_try s call) planned)
  plans-next (Limit found) planned =
      either s call (same_server found (server_at shared.servers call.server)) (Answers Full)
      (lost_try s call) tt (plans-lost_try s call)
  plans-next (Reserving found slots) planned =
      either s call _ (goes call (Holding found)) (lost_try s call) planned (plans-lost_try s call)
  plans-next (Holding found) planned =
      either s call (same_server (server_at shared.servers call.server) found) (goes call Firming)
      (goes call Losing) tt tt
  plans-next Firming planned = tt
  plans-next Losing planned = plans-lost_try s call
  plans-next (Loosening found mark answer) planned = planned
  plans-next (Loosened found mark answer) planned = puts-change s call found mark answer planned
  plans-next (Emptied answer) planned = tt

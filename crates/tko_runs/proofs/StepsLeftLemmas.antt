-- How many steps a call has left: each of its steps leaves fewer.
use Rattle.std.proofs.Common.{◌≡◌, ℕ, ◌+◌, ◌-◌, ◌*◌, ◌<◌, ◌≤◌, Bool, cond, eqb, subst, arith}
use Rattle.std.proofs.lemmas.Bool.{cond_both}
use Rattle.tko_model.specs.declared.mark.Mark.TheVariants.{Soft}
use Rattle.tko_model.specs.declared.mark.Reply.{Reply}
use Rattle.tko_model.specs.declared.mark.Reply.TheVariants as reply
use Rattle.tko_model.specs.declared.mark.Reply.TheVariants.{Contended}
use Rattle.tko_model.specs.Settings.{Settings}
use Rattle.tko_model.specs.declared.state.ServerState.{ServerState}
use Rattle.tko_model.specs.Ranges.{IsWithinRanges}
use Rattle.tko_model.specs.Tracker.{server_at}
use Rattle.tko_runs.specs.Limits.{max_steps}
use Rattle.tko_steps.specs.declared.phase.Call.{Call}
use Rattle.tko_steps.specs.declared.phase.Phase.{Phase}
use Rattle.tko_steps.specs.declared.phase.Phase.TheVariants.{Start, Read, AtThreshold, Limit}
use Rattle.tko_steps.specs.declared.phase.Phase.TheVariants.{Reserving, Holding, Firming, Losing}
use Rattle.tko_steps.specs.declared.phase.Phase.TheVariants.{Loosening, Loosened, Emptied}
use Rattle.tko_steps.specs.declared.phase.Slots.{Slots}
use Rattle.tko_steps.specs.declared.phase.ThreadState.{ThreadState}
use Rattle.tko_steps.specs.declared.phase.ThreadState.TheVariants.{NotEnrolled, Idle, InCall}
use Rattle.tko_steps.specs.declared.table.Action.TheVariants.{Exchange, Reserve}
use Rattle.tko_steps.specs.declared.table.Decision.{Decision}
use Rattle.tko_steps.specs.declared.table.Decision.TheVariants.{Goes, Answers}
use Rattle.tko_steps.specs.Core.{Shared, seen_by, slots_at}
use Rattle.tko_steps.specs.Steps.{decided_state, writes}
use Rattle.tko_steps.specs.declared.step.Word.TheVariants as word
use Rattle.tko_steps.specs.Table.{action_of, at_threshold, from_start, goes, lost_try}
use Rattle.tko_steps.specs.Table.{next_of, same_server}
use Rattle.tko_steps.proofs.CostLemmas.{depth}
use Rattle.tko_steps.proofs.StartLemmas.{from_start-is}
use Rattle.tko_model.specs.Groups.{group_of, limit_at}

-- at most so many steps are left of a call
abbrev pub left_of : Settings → ThreadState → ℕ
left_of s NotEnrolled = 0
left_of s (Idle number) = 0
left_of s (InCall call phase) = 5 * (s.tries - call.lost) - depth phase

module _ (s : Settings) (call : Call) (left : call.lost < s.tries) where
  -- what follows a step leaves fewer
  abbrev IsNearer : ℕ → Decision → Type 0
  IsNearer before decision = left_of s (decided_state call decision) < before

  nearer-lost : (before : ℕ) → 5 * (s.tries - call.lost) < before + 5
      → IsNearer before (lost_try s call)
  nearer-lost before less =
      cond_both (eqb s.tries (call.lost + 1)) (Answers Contended) (Goes (call.lost + 1) Start)
      (IsNearer before)
      (λ e. omega (arith, left, less))
      (λ e. omega (arith, left, less))

  nearer-won : (before : ℕ) (won : Bool) (wins : Decision) → IsNearer before wins
      → 5 * (s.tries - call.lost) < before + 5
      → IsNearer before (cond won wins (lost_try s call))
  nearer-won before won wins near less =
      cond_both won wins (lost_try s call) (IsNearer before) (λ e. near)
      (λ e. nearer-lost before less)

  -- what follows the look that begins a try
  abbrev IsBegun : Decision → Type 0
  IsBegun decision = IsNearer (5 * (s.tries - call.lost)) decision

  begun-answers : (answer : Reply) → IsBegun (Answers answer)
  begun-answers answer = omega (arith, left)

  begun-goes : (phase : Phase) → 1 ≤ depth phase → IsBegun (goes call phase)
  begun-goes phase low = omega (arith, left, low)

  begun-from_start : (found : ServerState) → IsBegun (from_start s call found)
  begun-from_start found =
      from_start-is s call found IsBegun
      (λ answer is_answer is. begun-answers answer)
      (λ soft fresh is. begun-goes (AtThreshold found) (omega arith))
      (λ mark answer put can by is. begun-goes (Read found mark answer) (omega arith))
      (λ mark answer put can own is. begun-goes (Loosening found mark answer) (omega arith))

  nearer-at_threshold : (found : ServerState) (slots : Slots)
      → IsNearer (5 * (s.tries - call.lost) - 1) (at_threshold s call found slots)
  nearer-at_threshold found slots =
      let before = 5 * (s.tries - call.lost) - 1 in
      let full = eqb (slots.firm + slots.held) (limit_at s call.server) in
      cond_both (eqb slots.firm (limit_at s call.server)) (goes call (Limit found))
      (cond full (lost_try s call) (goes call (Reserving found slots))) (IsNearer before)
      (λ e. omega (arith, left))
      (λ e. cond_both full (lost_try s call) (goes call (Reserving found slots)) (IsNearer before)
      (λ none. nearer-lost before (omega (arith, left)))
      (λ room. omega (arith, left)))

  -- each step of a call leaves fewer
  pub nearer : (shared : Shared) (phase : Phase)
      → IsNearer (5 * (s.tries - call.lost) - depth phase)
      (next_of s call phase (seen_by s shared call.server (action_of call.number phase)))
  nearer shared Start =
      let found = server_at shared.servers call.server in
      let all : 5 * (s.tries - call.lost) ≡ 5 * (s.tries - call.lost) - 0 = omega arith in
      let P : ℕ → Type 0 = λ before. IsNearer before (from_start s call found) in
      subst P all (begun-from_start found)
  nearer shared (Read found mark answer) =
      nearer-won _ (writes (Exchange found mark)
      (word.Server (server_at shared.servers call.server))) (Answers answer) (omega (arith, left))
      (omega (arith, left))
  nearer shared (AtThreshold found) =
      nearer-at_threshold found (slots_at shared.slots (group_of s call.server))
  nearer shared (Limit found) =
      nearer-won _ (same_server found (server_at shared.servers call.server)) (Answers reply.Full)
      (omega (arith, left)) (omega (arith, left))
  nearer shared (Reserving found slots) =
      nearer-won _ (writes (Reserve slots)
      (word.Soft (slots_at shared.slots (group_of s call.server)))) (goes call (Holding found))
      (omega (arith, left)) (omega (arith, left))
  nearer shared (Holding found) =
      let before = 5 * (s.tries - call.lost) - 3 in
      cond_both (writes (Exchange found (Soft call.number))
      (word.Server (server_at shared.servers call.server))) (goes call Firming) (goes call Losing)
      (IsNearer before)
      (λ e. omega (arith, left)) (λ e. omega (arith, left))
  nearer shared Firming = omega (arith, left)
  nearer shared Losing = nearer-lost _ (omega (arith, left))
  nearer shared (Loosening found mark answer) = omega (arith, left)
  nearer shared (Loosened found mark answer) = omega (arith, left)
  nearer shared (Emptied answer) = omega (arith, left)

  -- a call has a step left, and no more than five for each try
  pub some-left : (phase : Phase) → 1 ≤ left_of s (InCall call phase)
  some-left Start = omega (arith, left)
  some-left (Read found mark answer) = omega (arith, left)
  some-left (AtThreshold found) = omega (arith, left)
  some-left (Limit found) = omega (arith, left)
  some-left (Reserving found slots) = omega (arith, left)
  some-left (Holding found) = omega (arith, left)
  some-left Firming = omega (arith, left)
  some-left Losing = omega (arith, left)
  some-left (Loosening found mark answer) = omega (arith, left)
  some-left (Loosened found mark answer) = omega (arith, left)
  some-left (Emptied answer) = omega (arith, left)

pub most-left : (s : Settings) (state : ThreadState) → IsWithinRanges s
    → left_of s state ≤ max_steps
most-left s NotEnrolled ranges = omega arith
most-left s (Idle number) ranges = omega arith
most-left s (InCall call phase) ranges = omega (arith, ranges.tries.1)

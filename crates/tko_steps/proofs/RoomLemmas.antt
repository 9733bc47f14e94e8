-- What the steps on the words need: numbers, stamps and slots fit their words.
use Rattle.std.proofs.Common.{◌≡◌, ℕ, ◌+◌, ◌<◌, ◌≤◌, length, refl, ap, arith}
use Rattle.std.proofs.lemmas.List.Sums.{count_by-le-length}
use Rattle.tko_model.specs.declared.mark.Mark.{Mark}
use Rattle.tko_model.specs.declared.mark.Mark.TheVariants.{Up, Soft, Hard}
use Rattle.tko_model.specs.declared.layout.Layout.TheVariants as layout
use Rattle.tko_model.specs.Limits.{max_threads}
use Rattle.tko_model.specs.Settings.{Settings}
use Rattle.tko_model.specs.declared.state.ServerState.{ServerState}
use Rattle.tko_model.specs.Ranges.{IsWithinRanges}
use Rattle.tko_model.specs.Groups.{group_of}
use Rattle.tko_model.specs.Tracker.{IsFit}
use Rattle.tko_model.proofs.GroupLemmas.{limit_of-le}
use Rattle.tko_steps.specs.declared.phase.Call.{Call}
use Rattle.tko_steps.specs.declared.phase.Phase.{Phase}
use Rattle.tko_steps.specs.declared.phase.Phase.TheVariants.{Start, Read, AtThreshold, Limit, Reserving, Holding, Firming, Losing, Loosening, Loosened, Emptied}
use Rattle.tko_steps.specs.declared.phase.ThreadState.TheVariants.{InCall}
use Rattle.tko_steps.specs.declared.table.Action.{Action}
use Rattle.tko_steps.specs.declared.table.Action.TheVariants.{LookAtServer, LookAtSlots, Exchange, Reserve, Settle, Loosen, Give}
use Rattle.tko_steps.specs.Core.{CoreState, Shared, drawn_number, thread_at}
use Rattle.tko_steps.specs.StepNeeds.{CanAct, IsPlace}
use Rattle.tko_steps.specs.Owners.{is_enrolled}
use Rattle.tko_steps.specs.Steps.{place_of}
use Rattle.tko_word.specs.Words.{IsMark, stamp_end}
use Rattle.tko_steps.specs.Invariant.{IsCore, IsOwnOrUp, IsWrite, firm_at, held_at}
use Rattle.tko_steps.specs.Table.{action_of}
use Rattle.tko_steps.proofs.ThreadLemmas.{number-lt}
use Rattle.tko_steps.proofs.CoreLemmas.{group-there, one-le-firm, own-group}
use Rattle.tko_steps.proofs.PhaseStepLemmas.{knows_at, one-le-held}

-- as many threads are enrolled as drew a number, so a number is one of the settings' threads
pub enrolled-le : (core : CoreState) → IsCore core → core.shared.enrolled ≤ core.settings.threads
enrolled-le core is = omega (arith, is.enrolled, is.threads, count_by-le-length is_enrolled core.threads)

pub stamp-fits : (s : Settings) (mark : Mark) (stamp : ℕ) → IsFit s mark stamp → stamp < stamp_end
stamp-fits s (Up count) stamp fit = omega (arith, fit.1)
stamp-fits s (Soft owner) stamp fit = omega arith
stamp-fits s (Hard owner) stamp fit = omega arith

-- the word of each step on a server that is there
place-there : (s : Settings) (shared : Shared) (server : ℕ) (action : Action) → server < length shared.servers
    → group_of s server < length shared.slots → IsPlace shared (place_of s server action)
place-there s shared server LookAtServer there group = there
place-there s shared server LookAtSlots there group = group
place-there s shared server (Exchange found mark) there group = there
place-there s shared server (Reserve slots) there group = group
place-there s shared server Settle there group = group
place-there s shared server Loosen there group = group
place-there s shared server Give there group = group

mark-fits : (s : Settings) (number : ℕ) (mark : Mark) (stamp : ℕ) → IsWithinRanges s → number < max_threads layout.Two → IsFit s mark stamp
    → IsOwnOrUp number mark → IsMark mark
mark-fits s number (Up count) stamp ranges low fit own = omega (arith, fit.0, ranges.failures.1)
mark-fits s number (Soft owner) stamp ranges low fit own = absurd own
mark-fits s number (Hard owner) stamp ranges low fit own = omega arith

module _ (core : CoreState) (thread : ℕ) (call : Call) (is : IsCore core) (inside : thread < length core.threads) where
  number-fits : (phase : Phase) → thread_at core thread ≡ InCall call phase → call.number < max_threads layout.Two
  number-fits phase stands =
      let drawn = number-lt core.threads core.shared.enrolled thread call.number is.numbers inside (ap drawn_number stands) in
      omega (arith, drawn, enrolled-le core is, is.settings.threads.1)

  few-slots : firm_at core (group_of core.settings call.server) + held_at core (group_of core.settings call.server) ≤ 256
  few-slots = omega (arith, (own-group core call.server is).room, limit_of-le core.settings (group_of core.settings call.server) is.settings)

  there : group_of core.settings call.server < length core.shared.slots
  there = group-there core call.server is

  -- a write that the thread may make
  can-write : (phase : Phase) → thread_at core thread ≡ InCall call phase → (found : ServerState) (mark : Mark)
      → IsWrite core.settings call.number found mark → CanAct core.settings core.shared call.server (Exchange found mark)
  can-write phase stands found mark write = (
    (knows_at core thread call is inside phase stands).0,
    mark-fits core.settings call.number mark (found.stamp + 1) is.settings (number-fits phase stands) write.fit write.own,
    stamp-fits core.settings mark (found.stamp + 1) write.fit,
  )

  pub CanAct-at : (phase : Phase) → thread_at core thread ≡ InCall call phase → CanAct core.settings core.shared call.server (action_of call.number phase)
  CanAct-at Start stands = (knows_at core thread call is inside Start stands).0
  CanAct-at (Read found mark answer) stands =
      can-write (Read found mark answer) stands found mark (knows_at core thread call is inside (Read found mark answer) stands).2.0
  CanAct-at (AtThreshold found) stands = (there, tt)
  CanAct-at (Limit found) stands = (knows_at core thread call is inside (Limit found) stands).0
  CanAct-at (Reserving found slots) stands = (there, omega (arith, few-slots))
  CanAct-at (Holding found) stands =
      let phase : Phase = Holding found in
      let knows = knows_at core thread call is inside phase stands in
      (knows.0, number-fits phase stands, omega (arith, knows.2.1))
  CanAct-at Firming stands = (there, (one-le-held core thread call is inside Firming stands refl, omega (arith, few-slots)))
  CanAct-at Losing stands = (there, one-le-held core thread call is inside Losing stands refl)
  CanAct-at (Loosening found mark answer) stands =
      (there, (one-le-firm core thread call found mark answer is inside stands, omega (arith, few-slots)))
  CanAct-at (Loosened found mark answer) stands =
      can-write (Loosened found mark answer) stands found mark (knows_at core thread call is inside (Loosened found mark answer) stands).2.0
  CanAct-at (Emptied answer) stands = (there, one-le-held core thread call is inside (Emptied answer) stands refl)

  pub lost-lt : (phase : Phase) → thread_at core thread ≡ InCall call phase → call.lost < core.settings.tries
  lost-lt phase stands = (knows_at core thread call is inside phase stands).1

  pub IsPlace-at : (phase : Phase) → thread_at core thread ≡ InCall call phase
      → IsPlace core.shared (place_of core.settings call.server (action_of call.number phase))
  IsPlace-at phase stands =
      place-there core.settings core.shared call.server (action_of call.number phase) (knows_at core thread call is inside phase stands).0
      there

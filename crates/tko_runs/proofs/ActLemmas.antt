-- What an atomic step of the core claims: the word that it leaves is one that its kind can leave of
-- the word that it finds.
use Rattle.std.proofs.Common.{◌≡◌, ℕ, ◌+◌, ◌<◌, true, List, length, Some, None, refl, sym, ap}
use Rattle.std.proofs.Common.{◌∙◌, arith}
use Rattle.tko_model.specs.declared.mark.Mark.{Mark}
use Rattle.tko_model.specs.declared.mark.Mark.TheVariants.{Soft}
use Rattle.tko_model.specs.declared.mark.Reply.{Reply}
use Rattle.tko_model.specs.declared.state.ServerState.{ServerState}
use Rattle.tko_model.specs.Tracker.{becomes, server_at, transition}
use Rattle.tko_steps.specs.declared.phase.Call.{Call}
use Rattle.tko_steps.specs.declared.phase.Phase.{Phase}
use Rattle.tko_steps.specs.declared.phase.Phase.TheVariants.{Start, Read, AtThreshold, Limit}
use Rattle.tko_steps.specs.declared.phase.Phase.TheVariants.{Reserving, Holding, Firming, Losing}
use Rattle.tko_steps.specs.declared.phase.Phase.TheVariants.{Loosening, Loosened, Emptied}
use Rattle.tko_steps.specs.declared.phase.ThreadState.TheVariants.{InCall}
use Rattle.tko_steps.specs.Core.{CoreState, abstract_of, drawn_number, slots_at}
use Rattle.tko_steps.specs.Owners.{owner_of}
use Rattle.tko_steps.specs.Core.{thread_at}
use Rattle.tko_steps.specs.Invariant.{IsCore, IsWrite, held_at}
use Rattle.tko_steps.specs.declared.table.Action.TheVariants.{Exchange}
use Rattle.tko_steps.specs.Table.{action_of, same_slots}
use Rattle.tko_steps.proofs.PhaseStepLemmas.{knows_at, one-le-held}
use Rattle.tko_steps.proofs.RoomLemmas.{CanAct-at, enrolled-le}
use Rattle.tko_steps.proofs.SoFarLemmas.{Knows}
use Rattle.tko_steps.proofs.ThreadLemmas.{number-lt}
use Rattle.tko_steps.specs.Runs.{OwnStep}
use Rattle.tko_model.specs.Groups.{group_of}
use Rattle.tko_runs.proofs.MarkLemmas.{decided-can, found-stands, fresh-can, write-valid}
use Rattle.tko_runs.proofs.WordActLemmas.{Acts, Acts-exchange, Acts-give, Acts-loosen}
use Rattle.tko_runs.proofs.WordActLemmas.{Acts-reserve, Acts-settle}

-- The step of each phase.

module _ (core : CoreState) (thread : ℕ) (call : Call) (is : IsCore core)
    (inside : thread < length core.threads) (steps : List OwnStep) where
  abbrev now_at : ServerState
  now_at = server_at (abstract_of core) call.server

  number-low : (phase : Phase) → thread_at core thread ≡ InCall call phase
      → call.number < core.settings.threads
  number-low phase stands =
      let drawn = number-lt core.threads core.shared.enrolled thread call.number is.numbers inside
      (ap drawn_number stands) in
      omega (arith, drawn, enrolled-le core is)

  -- an exchange of what the tracker decides of the operation
  decides : (phase : Phase) → thread_at core thread ≡ InCall call phase
      → (found : ServerState) (mark : Mark) (answer : Reply)
      → ((owner : ℕ) → owner_of found.mark ≡ Some owner → now_at ≡ found)
      → IsWrite core.settings call.number found mark
      → transition core.settings true call.number call.op found.mark found.stamp
      ≡ becomes mark answer
      → Acts core.settings core.shared call.server (Exchange found mark)
  decides phase stands found mark answer still write decided =
      Acts-exchange core.settings core.shared call.server found mark still
      (decided-can core.settings (held_at core
      (group_of core.settings call.server)) call.number call.op found.mark mark found.stamp answer
      write.own (number-low phase stands) decided)
      (write-valid core.settings call.number mark (found.stamp + 1) write.fit write.own
      (number-low phase stands))

  pub acts : (phase : Phase) → thread_at core thread ≡ InCall call phase
      → Knows core.settings thread call steps now_at phase
      → Acts core.settings core.shared call.server (action_of call.number phase)
  acts Start stands says = record { wins = refl; can = refl }
  acts (Read found mark answer) stands says =
      let phase : Phase = Read found mark answer in
      let knows = knows_at core thread call is inside phase stands in
      decides phase stands found mark answer
      (found-stands call.number now_at found found.mark knows.2.1) knows.2.0 (says.1 true)
  acts (AtThreshold found) stands says = record { wins = refl; can = refl }
  acts (Limit found) stands says = record { wins = refl; can = refl }
  acts (Reserving found slots) stands says =
      let knows = knows_at core thread call is inside (Reserving found slots) stands in
      Acts-reserve core.settings core.shared call.server slots
      (same_slots (slots_at core.shared.slots (group_of core.settings call.server)) slots) refl
      knows.2.1
  acts (Holding found) stands says =
      let phase : Phase = Holding found in
      let knows = knows_at core thread call is inside phase stands in
      let fresh = knows.2 in
      Acts-exchange core.settings core.shared call.server found (Soft call.number)
      (λ owner owned. let none : None ≡ Some owner = sym fresh.0 ∙ owned in cc)
      (fresh-can core.settings (held_at core
      (group_of core.settings call.server)) call.number found.mark fresh.0 (number-low phase stands)
      (one-le-held core thread call is inside phase stands refl))
      (number-low phase stands, omega (arith, fresh.1))
  acts Firming stands says =
      Acts-settle core.settings core.shared call.server
      (CanAct-at core thread call is inside Firming stands)
  acts Losing stands says =
      Acts-give core.settings core.shared call.server
      (CanAct-at core thread call is inside Losing stands)
  acts (Loosening found mark answer) stands says =
      Acts-loosen core.settings core.shared call.server
      (CanAct-at core thread call is inside (Loosening found mark answer) stands)
  acts (Loosened found mark answer) stands says =
      let phase : Phase = Loosened found mark answer in
      let knows = knows_at core thread call is inside phase stands in
      decides phase stands found mark answer (λ owner owned. knows.2.2) knows.2.0 (says.1 true)
  acts (Emptied answer) stands says =
      Acts-give core.settings core.shared call.server
      (CanAct-at core thread call is inside (Emptied answer) stands)

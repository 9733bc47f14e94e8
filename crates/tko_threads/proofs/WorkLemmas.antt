-- What a worker did so far, and what its share was given.
use Rattle.std.proofs.Common.{◌≡◌, Bool, Result, [], ◌∷◌, ◌++◌, refl, subst}
use Rattle.tko_model.proofs.RecordLemmas.{gains_none, gains_push}
use Rattle.tko_session.specs.declared.fault.SessionFault.{SessionFault}
use Rattle.tko_session.specs.declared.step.Report.{Report}
use Rattle.tko_desk.specs.declared.book.Share.{Share}
use Rattle.tko_threads.specs.Worked.{AtWork, HasSettled, IsRoundRun, IsSession, IsSessionServed, IsWork, Rested, Served, WithShare, WorkerEvent, WorkerGhosts, Works, with_share}

module _ {I O H L C : Type 0} {ghosts : WorkerGhosts I O H L C} where
  -- nothing yet
  pub works_none : {at : WithShare H L C} → Works ghosts at at
  works_none {at} = record { events = []; gains = gains_none at }

  -- from where it began
  pub works_from : {at new : WithShare H L C} (start : WithShare H L C) → at ≡ start → Works ghosts at new → Works ghosts start new
  works_from {at} {new} start same did = subst (λ it. Works ghosts it new) same did

  works_on : {old mid new : WithShare H L C} (event : WorkerEvent) → Works ghosts old mid
      → IsWork ghosts mid event new → Works ghosts old new
  works_on event so_far step =
      record { events = so_far.events ++ event ∷ []; gains = gains_push so_far.gains step }

  -- a client was served, and the account settled
  pub works_session : {old : WithShare H L C} {at mid : AtWork H L C} {share : Share} {new : WithShare H L C}
      {ended : Result Report SessionFault} {full : Bool}
      → Works ghosts old (with_share at share) → IsSession ghosts at ended mid
      → HasSettled ghosts.backend (with_share mid share) full new → Works ghosts old new
  works_session {at} {mid} {share} {new} {ended} {full} so_far session settled =
      let served : IsSessionServed ghosts (with_share at share) ended full new =
      record { mid = mid; session = session; settled = settled } in
      works_on (Served ended full) so_far served

  -- a round was run
  pub works_round : {old : WithShare H L C} {at new : AtWork H L C} {share : Share} {short : Bool}
      → Works ghosts old (with_share at share) → IsRoundRun ghosts.backend at short new
      → Works ghosts old (with_share new share)
  works_round {short} so_far rested = works_on (Rested short) so_far (rested, refl)

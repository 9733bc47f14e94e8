-- What items are answered from, and how answering them ends.
use Rattle.std.specs.Prelude.{◌≡◌, ℕ, Bool, true, false, List, [], MatchBool, Result, Ok, Err}
use Rattle.tko_bytes.specs.declared.memory.NoMemory.{NoMemory}
use Rattle.tko_prober.specs.Ghosts.{BackendGhosts}
use Rattle.tko_prober.specs.Probers.{AreQuiet, NoneMarked}
use Rattle.tko_route.specs.declared.attempt.Attempt.{Attempt}
use Rattle.tko_reply.specs.Answers.{Reaches}
use Rattle.tko_reply.specs.Interactions.{with_links, with_noted}
use Rattle.tko_reply.specs.declared.parts.Parts.{Parts}
use Rattle.tko_session.specs.declared.step.Progress.{Progress}
use Rattle.tko_session.specs.Working.{Between}
use Rattle.tko_session.specs.Events.{Effects, Rounded}
use Rattle.tko_session.specs.SessionState.{AnsweredPart, HasAnswered, SessionState, Snapshot, snapshot}

-- no request is being answered, and no round is owed
pub record IsSettled (state : SessionState) : Type 0 where
  pub between : state.work ≡ Between
  pub unowed : state.owes ≡ false

-- the same of a session over parts that have the servers of the configuration
pub record IsSettledOver {H L T C : Type 0} (servers : H → ℕ) (linked : L → ℕ)
    (at : Snapshot (Parts H L T C)) : Type 0 where
  pub settled : IsSettled at.state
  pub reach : Reaches servers linked at.parts

-- no request is being answered by a session over parts that have the servers of the configuration
pub record IsBetweenOver {H L T C : Type 0} (servers : H → ℕ) (linked : L → ℕ)
    (at : Snapshot (Parts H L T C)) : Type 0 where
  pub between : at.state.work ≡ Between
  pub reach : Reaches servers linked at.parts

-- of the parts a send changes the links alone, and of these no count of probes
pub record OnlySendChanges {H L T C : Type 0} (probed : L → ℕ → ℕ) (old new : Parts H L T C)
    : Type 0 where
  pub others : new ≡ with_links new.backend.links old
  pub probes : (server : ℕ)
      → probed new.backend.links server ≡ probed old.backend.links server

-- where a round is still owed, a prober is at work
abbrev pub OwesWhereBusy : {H L T C : Type 0} → Snapshot (Parts H L T C) → Type 0
OwesWhereBusy at = at.state.owes ≡ true → ¬ AreQuiet at.parts.backend.probers

-- where no round is owed, each server that was marked has its prober, if that was so before
abbrev pub KeepsBegun : {H L T C : Type 0} → Snapshot (Parts H L T C) → Snapshot (Parts H L T C)
    → Type 0
KeepsBegun old new = NoneMarked old.parts.backend.probers → new.state.owes ≡ false
    → NoneMarked new.parts.backend.probers

-- how the answering of items ends: at this progress, or where memory ran out
abbrev pub AnsweringEnds : {W : Type 0} → Effects W → Snapshot W → Result Progress NoMemory
    → Snapshot W → Type 0
AnsweringEnds effects old (Ok progress) new = HasAnswered effects progress old new
AnsweringEnds effects old (Err fault) new = AnsweredPart effects old new

-- how the answering of one item ends: the probers are as they were unless its round is owed
pub record ItemEnds {H L T C : Type 0} (effects : Effects (Parts H L T C))
    (old : Snapshot (Parts H L T C)) (result : Result Progress NoMemory)
    (new : Snapshot (Parts H L T C)) : Type 0 where
  pub ends : AnsweringEnds effects old result new
  pub unowed : new.state.owes ≡ false
      → new.parts.backend.probers ≡ old.parts.backend.probers
  pub between : new.state.work ≡ Between

-- how driving an item to its end ends: where memory ran out, the marks of these attempts are still
-- to be noted
abbrev pub DriveEnds : {H L T C : Type 0} → Effects (Parts H L T C) → Snapshot (Parts H L T C)
    → Result Progress (List Attempt) → Snapshot (Parts H L T C) → Type 0
DriveEnds effects old (Ok progress) new = ItemEnds effects old (Ok progress) new
DriveEnds effects old (Err attempts) new = (fault : NoMemory)
    → ItemEnds effects old (Err fault) (snapshot new.state (with_noted attempts new.parts))

-- a round may be run: no reply waits for it, or no prober is at work, so that it takes no time
pub data MayRunRound {H L T C : Type 0} (at : Snapshot (Parts H L T C)) : Type 0 where
  none_waits : at.state.outbox ≡ [] → MayRunRound at
  none_at_work : AreQuiet at.parts.backend.probers → MayRunRound at

-- nothing was done, for which no memory is needed
pub record NoneRun {W : Type 0} (short : Bool) (old new : W) : Type 0 where
  pub never_short : short ≡ false
  pub same : new ≡ old

-- a round was run where one was owed, and else nothing was done; memory ran out or did not
pub record IsRun {H L T C : Type 0} (ghosts : BackendGhosts H L C)
    (old : Snapshot (Parts H L T C)) (short : Bool) (new : Parts H L T C) : Type 0 where
  pub ran : MatchBool old.state.owes (Rounded ghosts short old.parts new)
      (NoneRun short old.parts new)

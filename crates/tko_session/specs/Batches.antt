-- Items that are answered before their replies are written: a batch.
use Rattle.std.specs.Prelude.{◌≡◌, ◌≤◌, ℕ, List, [], ◌++◌, length}
use Rattle.tko_reply.specs.Answering.{Extends}
use Rattle.tko_session.specs.Events.{NoneAtWork, SessionEvent, turns_of}
use Rattle.tko_session.specs.SessionState.{BeginBelowBound, replies_text}

-- each item of a batch begins while fewer bytes than the bound wait, and no prober is at work in a
-- round between them
pub record IsBatch (events : List SessionEvent) : Type 0 where
  pub begin : BeginBelowBound 0 (turns_of events)
  pub at_once : NoneAtWork events

-- a round at most, and no item
pub record IsRoundAtMost (events : List SessionEvent) : Type 0 where
  pub one : length events ≤ 1
  pub none : turns_of events ≡ []

-- the last of these events are one batch, and a round after it at most; the text of all those
-- before is at the front of what was written
pub record EndInBatch (events : List SessionEvent) (written : List ℕ) : Type 0 where
  pub before : List SessionEvent
  pub batch : List SessionEvent
  pub last : List SessionEvent
  pub parts : events ≡ before ++ (batch ++ last)
  pub front : Extends (replies_text (turns_of before)) written
  pub is : IsBatch batch
  pub round : IsRoundAtMost last

-- How much is done for one client each time that it is served.
use Rattle.std.specs.Prelude.{◌≤◌, ◌+◌, ◌*◌, ℕ, List, length, sum_by}
use Rattle.tko_model.specs.Records.{Gains}
use Rattle.tko_port.specs.Ports.{PortState}
use Rattle.tko_port.specs.Talks.{Dropped, Ended, Fed, NotFed, Sent, TalkItem, Took, Went}

-- how often a session goes on in a turn at most
abbrev pub rounds_a_turn : ℕ
rounds_a_turn = 4

-- whether a session went on, once, also where memory ran out as it did
abbrev pub times_gone : TalkItem → ℕ
times_gone (Went asked) = 1
times_gone Dropped = 1
times_gone (Fed bytes) = 0
times_gone NotFed = 0
times_gone Ended = 0
times_gone (Sent count) = 0
times_gone (Took server came asked) = 0

-- a session and its port were served: the session went on so often at most, and so many bytes were
-- read at most
pub record IsServedWithin {S : Type 0} (does : S → TalkItem → S → Type 0) (times bytes : ℕ)
    (old : S) (was : PortState) (new : S) (port : PortState) : Type 0 where
  pub items : List TalkItem
  pub done : Gains does old items new
  pub gone : sum_by times_gone items ≤ times
  pub read : length port.read ≤ length was.read + bytes

-- a client was served once: its session went on so often at most, and the buffer, which has this
-- length, was filled as often at most
abbrev pub IsOneTurn : {S : Type 0} → (S → TalkItem → S → Type 0) → ℕ → S → PortState → S
    → PortState → Type 0
IsOneTurn does room old was new port =
    IsServedWithin does rounds_a_turn (rounds_a_turn * room) old was new port

-- What an event of the poll says of a socket.
use Rattle.std.specs.Prelude.{◌≡◌, ◌||◌, ℕ, Bool, true, false, Option, Some, None}
use Rattle.std.specs.Option.{option_map}
use Rattle.mio.specs.declared.event.event.Event.{Event}
use Rattle.mio.specs.Event.{is_error, is_readable, is_read_closed, is_writable}
use Rattle.tko_port.specs.declared.guest.ClientEvent as notice
use Rattle.tko_port.specs.declared.guest.ClientEvent.TheVariants.{Ended, Readable, Writable}
use Rattle.tko_port.specs.Ports.{PortState, now_readable, now_writable}
use Rattle.tko_worker.specs.Workers.{IsNoted, Sight, WorkerState}

-- the other side sends no more, or the connection failed
abbrev pub says_ended : Event → Bool
says_ended event = is_read_closed event || is_error event

-- it can be read from; the end is read too
abbrev pub says_readable : Event → Bool
says_readable event = says_ended event || is_readable event

-- a port, if there is one, is as it was, or as this makes it
abbrev pub noted_if : Bool → (PortState → PortState) → Option PortState → Option PortState
noted_if true note port = option_map note port
noted_if false note port = port

-- the port of a server after an event
abbrev pub port_after : Event → Option PortState → Option PortState
port_after event port =
    noted_if (says_readable event) now_readable (noted_if (is_writable event) now_writable port)

-- what a client is told of reading: that the other side's end, or bytes, can be read; or nothing
abbrev pub told_of_reading : (ended readable : Bool) → Option notice.ClientEvent
told_of_reading true readable = Some Ended
told_of_reading false true = Some Readable
told_of_reading false false = None

-- what a client is told of writing, if it is told of it
abbrev pub told_of_writing : (writable : Bool) → Option notice.ClientEvent
told_of_writing true = Some Writable
told_of_writing false = None

-- nothing changes, or this was noted at the port of a number's client
abbrev pub IsNotedIf : {L T P : Type 0} → Sight L T → Option notice.ClientEvent
    → WorkerState L T P → ℕ → WorkerState L T P → Type 0
IsNotedIf sight None old number new = new ≡ old
IsNotedIf sight (Some told) old number new = IsNoted sight told old number new

-- an event was noted at the port of a number's client
pub record IsEventTold {L T P : Type 0} (sight : Sight L T) (event : Event)
    (old : WorkerState L T P) (number : ℕ) (new : WorkerState L T P) : Type 0 where
  pub mid : WorkerState L T P
  pub writable : IsNotedIf sight (told_of_writing (is_writable event)) old number mid
  pub readable : IsNotedIf sight (told_of_reading (says_ended event) (is_readable event)) mid number
      new

-- the same, for a seat at which a client is or not
abbrev pub IsToldAt : {L T P : Type 0} → Sight L T → Event → WorkerState L T P → Option ℕ
    → WorkerState L T P → Type 0
IsToldAt sight event old None new = new ≡ old
IsToldAt sight event old (Some number) new = IsEventTold sight event old number new

-- Bytes in memory that are read and written.
use Rattle.std.specs.Prelude.{◌≡◌, ◌<◌, ◌==◌, ◌+◌, ℕ, min, List, find, length, Option, Some, None, Result, Ok, Err, IfOk, IfErr}
use Rattle.std.specs.Option.{option_map}
use Rattle.tko_io.specs.declared.io.Stop.{Stop}
use Rattle.tko_io.specs.declared.io.Stop.TheVariants.{Idle, Again, Fault}

-- all the bytes, how many there is room for, those that are still to be read, the greatest number
-- of bytes a call, at which calls it stops and how, how many calls there were, and how often it
-- failed and was idle
pub record Tape : Type 0 where
  pub bytes : List ℕ
  pub room : ℕ
  pub left : List ℕ
  pub greatest : ℕ
  pub stops : List (ℕ × Stop)
  pub calls : ℕ
  pub failures : ℕ
  pub idles : ℕ

-- a tape before the first call
abbrev pub tape_of : List ℕ → ℕ → ℕ → List (ℕ × Stop) → Tape
tape_of bytes room greatest stops = record {
  bytes = bytes;
  room = room;
  left = bytes;
  greatest = greatest;
  stops = stops;
  calls = 0;
  failures = 0;
  idles = 0;
}

-- the first stop in the list for the call of this number
abbrev pub first_stop : List (ℕ × Stop) → ℕ → Option Stop
first_stop stops call = option_map (λ stop. stop.1) (find (λ stop. stop.0 == call) stops)

-- the stop of the call that comes
abbrev pub stop_of : Tape → Option Stop
stop_of tape = first_stop tape.stops tape.calls

-- the tape of before one more call, with what a read changes as in the other one
abbrev pub with_read : Tape → Tape → Tape
with_read old new = record old {
  left = new.left;
  calls = old.calls + 1;
  failures = new.failures;
  idles = new.idles;
}

-- the same for a write
abbrev pub with_write : Tape → Tape → Tape
with_write old new = record old {
  bytes = new.bytes;
  room = new.room;
  left = new.left;
  calls = old.calls + 1;
  failures = new.failures;
}

-- a read into this room either stops, as the list says, or moves as many bytes as it may
abbrev pub ReadIs : Option Stop → Tape → ℕ → Result ℕ Stop → Type 0
ReadIs (Some stop) old room result = result ≡ Err stop
ReadIs None old room result = result ≡ Ok (min (min old.greatest room) (length old.left))

-- what a write returns at a stop: it is never idle
abbrev pub write_stop_of : Stop → Stop
write_stop_of Idle = Again
write_stop_of Again = Again
write_stop_of Fault = Fault

-- a write of `len` bytes either stops, as the list says, or moves as many as it may; it fails
-- without a stop only where there is no room for them, and memory ran out
abbrev pub WriteIs : Option Stop → Tape → ℕ → Result ℕ Stop → Type 0
WriteIs (Some stop) old len result = result ≡ Err (write_stop_of stop)
WriteIs None old len result =
    IfOk result (λ count. count ≡ min old.greatest len)
    × IfErr result (λ stop. (stop ≡ Fault) × (old.room < length old.bytes + min old.greatest len))

-- one call of a read into this room was made: it came to what the list of stops says, and changed
-- nothing beside what a read changes
pub record IsTapeRead (old : Tape) (room : ℕ) (result : Result ℕ Stop) (new : Tape) : Type 0 where
  pub result_is : ReadIs (stop_of old) old room result
  pub others : new ≡ with_read old new

-- the same of a write of `len` bytes
pub record IsTapeWrite (old : Tape) (len : ℕ) (result : Result ℕ Stop) (new : Tape) : Type 0 where
  pub result_is : WriteIs (stop_of old) old len result
  pub others : new ≡ with_write old new

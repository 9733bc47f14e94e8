-- A socket that does not wait, and what is known of it.
use Rattle.std.specs.Prelude.{◌≡◌, ◌<◌, ◌≤◌, ℕ, Bool, true, false, List, [], ◌++◌, length, take, Option, Some, None}
use Rattle.tko_port.specs.declared.port.Read.{Read}
use Rattle.tko_port.specs.declared.port.Read.TheVariants.{Bytes, Nothing, Ended, Fault}

-- whether a read or a write may find something to do, and the bytes that were read and written
pub record PortState : Type 0 where
  pub readable : Bool
  pub writable : Bool
  pub read : List ℕ
  pub written : List ℕ

-- nothing was read or written yet, and both may find something to do
abbrev pub ready_port : PortState
ready_port = record { readable = true; writable = true; read = []; written = [] }

-- an event said that it is readable
abbrev pub now_readable : PortState → PortState
now_readable port = record port { readable = true }

-- an event said that it is writable
abbrev pub now_writable : PortState → PortState
now_writable port = record port { writable = true }

-- so many bytes came at the front of the buffer. It may be that no more are there, but only if they
-- did not fill the buffer
pub record IsFilled (old : PortState) (buffer : List ℕ) (count : ℕ) (new : PortState) : Type 0 where
  pub some : 0 < count
  pub within : count ≤ length buffer
  pub state : new ≡ record old { readable = new.readable; read = old.read ++ take count buffer }
  pub whole : count ≡ length buffer → new.readable ≡ true

-- what a read gives: bytes; nothing is there; or nothing will come any more
abbrev pub ReadGives : PortState → List ℕ → Read → PortState → Type 0
ReadGives old buffer (Bytes count) new = IsFilled old buffer count new
ReadGives old buffer Nothing new = new ≡ record old { readable = false }
ReadGives old buffer Ended new = new ≡ record old { readable = false }
ReadGives old buffer Fault new = new ≡ record old { readable = false }

-- so many bytes were taken from the front of the text. It can take no more exactly if it did not
-- take all
pub record IsTakenFrom (old : PortState) (text : List ℕ) (count : ℕ) (new : PortState) : Type 0
  where
    pub within : count ≤ length text
    pub state : new ≡ record old {
      writable = new.writable;
      written = old.written ++ take count text;
    }
    pub part : count < length text → new.writable ≡ false
    pub whole : count ≡ length text → new.writable ≡ true

-- what a write gives: bytes were taken, or the connection failed
abbrev pub WriteGives : PortState → List ℕ → Option ℕ → PortState → Type 0
WriteGives old text (Some count) new = IsTakenFrom old text count new
WriteGives old text None new = new ≡ record old { writable = false }

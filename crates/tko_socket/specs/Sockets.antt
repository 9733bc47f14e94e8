-- A socket, as a port of a worker.
use Rattle.std.specs.Prelude.{◌≡◌, ◌++◌, ℕ, Bool, true, false, List, [], length}
use Rattle.tko_port.specs.declared.port.Read.{Read}
use Rattle.tko_port.specs.declared.port.Read.TheVariants.{Bytes, Ended, Fault, Nothing}
use Rattle.tko_port.specs.Ports.{PortState}
use Rattle.tko_socket.specs.declared.socket.Socket.{Socket}

abbrev pub port_of : Socket → PortState
port_of it = record {
  readable = it.readable;
  writable = it.writable;
  read = it.read;
  written = it.written;
}

-- nothing was read or written yet, and no event came
abbrev pub unready : PortState
unready = record { readable = false; writable = false; read = []; written = [] }

-- a piece came, which filled the buffer or not: it was given, or the socket gives nothing any more
abbrev pub IsPieceTaken : PortState → List ℕ → Bool → Read → PortState → Type 0
IsPieceTaken old piece is_full (Bytes count) new =
    (count ≡ length piece)
    × (new ≡ record old { readable = new.readable; read = old.read ++ piece })
    × (is_full ≡ true → new.readable ≡ true)
IsPieceTaken old piece is_full Ended new = new ≡ record old { readable = false }
IsPieceTaken old piece is_full Nothing new = ⊥
IsPieceTaken old piece is_full Fault new = ⊥

-- The result of an accept, and why accepting ends.
use Rattle.std.specs.Prelude.{◌≡◌, ◌≤◌, ◌<◌, ◌⊎◌, ◌+◌, ◌-◌, ◌^◌, ◌↔◌, ℕ, ℤ, pos, min, Bool, true}
use Rattle.std.specs.Prelude.{false, Result, Ok, Err, Some}
use Rattle.std.specs.IoError.{raw_os_error}
use Rattle.std.specs.declared.io.Error.{Error}
use Rattle.std.specs.declared.io.ErrorKind.{ErrorKind}
use Rattle.std.specs.declared.io.ErrorKind.TheVariants as kind
use Rattle.tko_accept.specs.declared.accepting.AcceptEnd.{AcceptEnd}
use Rattle.tko_accept.specs.declared.accepting.AcceptEnd.TheVariants.{Enough, NoWorker, Broken}
use Rattle.tko_accept.specs.declared.accepting.Entrance.{Entrance}
use Rattle.tko_accept.specs.declared.listening.AcceptStop.{AcceptStop}
use Rattle.tko_accept.specs.declared.listening.AcceptStop.TheVariants as stop
use Rattle.tko_accept.specs.declared.listening.Listening.{Listening}

-- Linux' error number EBADF: the descriptor is not open
abbrev pub bad_descriptor : ℤ
bad_descriptor = pos 9

-- Linux' error number EINVAL, here: the socket does not listen
abbrev pub does_not_listen : ℤ
does_not_listen = pos 22

-- Linux' error number ENOTSOCK: the descriptor is not a socket
abbrev pub no_socket : ℤ
no_socket = pos 88

-- the error says that the descriptor is not an open, listening socket
abbrev pub IsListenerBroken : Error → Type 0
IsListenerBroken error = (raw_os_error error ≡ Some bad_descriptor)
    ⊎ (raw_os_error error ≡ Some does_not_listen) ⊎ (raw_os_error error ≡ Some no_socket)

-- why an accept failed with any other error
abbrev pub stop_of_kind : ErrorKind → AcceptStop
stop_of_kind kind.WouldBlock = stop.Nobody
stop_of_kind kind.ConnectionAborted = stop.Aborted
stop_of_kind _ = stop.Failed

-- how many connections were accepted after this accept, of which `count` were before it; at most
-- 2^64 - 1
abbrev pub count_after : {S : Type 0} → ℕ → Result S AcceptStop → ℕ
count_after count (Ok stream) = min (2 ^ 64 - 1) (count + 1)
count_after count (Err stop) = count

-- whether an accept found the listener broken
abbrev pub is_broken : {S : Type 0} → Result S AcceptStop → Bool
is_broken (Ok stream) = false
is_broken (Err stop.Broken) = true
is_broken (Err _) = false

-- accepting `connections` connections, where 0 is no limit, came to this end
pub record HasAccepted {W : Type 0} (connections : ℕ) (listening : Listening)
    (entrance : Entrance W) (ended : AcceptEnd) : Type 0
  where
    -- it ends with `Enough` only once that many were accepted, and never accepts more
    pub enough : ended ≡ Enough → (0 < connections) × (listening.accepted ≡ connections)
    pub within : 0 < connections → listening.accepted ≤ connections
    -- it ends with `NoWorker` exactly if no worker took one of the connections
    pub no_worker : (ended ≡ NoWorker) ↔ (entrance.has_worker ≡ false)
    -- it ends with `Broken` exactly if the listener is broken
    pub broken : (ended ≡ Broken) ↔ (listening.is_broken ≡ true)

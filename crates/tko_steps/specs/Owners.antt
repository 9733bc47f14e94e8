-- Who owns what: the numbers of threads, and the servers whose marks name them.
use Rattle.std.specs.Prelude.{◌≡◌, ℕ, ◌==◌, Bool, true, false, List, Option, Some, None}
use Rattle.tko_model.specs.declared.mark.Mark.{Mark}
use Rattle.tko_model.specs.declared.mark.Mark.TheVariants as mark
use Rattle.tko_model.specs.declared.state.ServerState.{ServerState}
use Rattle.tko_model.specs.Tracker.{server_at}
use Rattle.tko_steps.specs.declared.phase.ThreadState.{ThreadState}
use Rattle.tko_steps.specs.declared.phase.ThreadState.TheVariants.{NotEnrolled, Idle, InCall}

-- whether a thread has this number
abbrev pub has_number : ℕ → ThreadState → Bool
has_number number NotEnrolled = false
has_number number (Idle own) = own == number
has_number number (InCall call phase) = call.number == number

-- whether a thread is enrolled
abbrev pub is_enrolled : ThreadState → Bool
is_enrolled NotEnrolled = false
is_enrolled (Idle number) = true
is_enrolled (InCall call phase) = true

-- whether a thread has a call
abbrev pub has_call : ThreadState → Bool
has_call NotEnrolled = false
has_call (Idle number) = false
has_call (InCall call phase) = true

-- the number of the thread that a mark names
abbrev pub owner_of : Mark → Option ℕ
owner_of (mark.Up count) = None
owner_of (mark.Soft thread) = Some thread
owner_of (mark.Hard thread) = Some thread

-- the server's mark names this number
abbrev pub IsOwner : List ServerState → ℕ → ℕ → Type 0
IsOwner servers number server = owner_of (server_at servers server).mark ≡ Some number

-- whether a mark names the number of this thread
abbrev pub names : Mark → Option ℕ → Bool
names (mark.Up count) number = false
names (mark.Soft owner) None = false
names (mark.Soft owner) (Some number) = owner == number
names (mark.Hard owner) None = false
names (mark.Hard owner) (Some number) = owner == number

-- a thread of this number, which owns these servers, owns those whose marks name it
abbrev pub IsOwnedBy : List ServerState → Option ℕ → (ℕ → Bool) → Type 0
IsOwnedBy servers number owned =
    (server : ℕ) → owned server ≡ names (server_at servers server).mark number

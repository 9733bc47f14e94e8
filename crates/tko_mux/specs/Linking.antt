-- Which client waits for which server.
use Rattle.std.specs.Prelude.{◌≡◌, ◌≢◌, ◌==◌, ◌+◌, ◌<◌, ◌⊎◌, ℕ, Bool, true, false, List, [], Option, Some, None, slice_get, sum_by}
use Rattle.tko_roster.specs.Rosters.{session_at}
use Rattle.tko_pipe.specs.declared.waiter.Asker.{Asker}
use Rattle.tko_pipe.specs.declared.waiter.Asker.TheVariants.{Client, GaveUp, Probe}
use Rattle.tko_pipe.specs.declared.waiter.Waiter.{Waiter}
use Rattle.tko_mux.specs.declared.client.Client.{Client as ClientOf}
use Rattle.tko_mux.specs.Awaits.{one_if, times_due}
use Rattle.tko_mux.specs.Lines.{LineState, waiters}

-- 1 if this is the client of that number and waits; a probe is no client's
abbrev pub one_for : ℕ → Asker → ℕ
one_for number (Client it) = one_if (it == number)
one_for number Probe = 0
one_for number (GaveUp it) = 0

-- how often the client of a number is among those that wait
abbrev pub times_in : ℕ → List Waiter → ℕ
times_in number queue = sum_by (λ it. one_for number it.by) queue

-- those that wait for a server
abbrev pub waiters_on : Option LineState → List Waiter
waiters_on None = []
waiters_on (Some line) = waiters line

abbrev pub waiters_at : List LineState → ℕ → List Waiter
waiters_at lines server = waiters_on (slice_get lines server)

-- the servers that a client's session awaits, if there is one
abbrev pub awaited_by : {S : Type 0} → (S → List ℕ) → Option (ClientOf S) → List ℕ
awaited_by awaited None = []
awaited_by awaited (Some client) = awaited client.session

-- the servers that the session of a number awaits
abbrev pub awaited_at : {S : Type 0} → (S → List ℕ) → List (Option (ClientOf S)) → ℕ → List ℕ
awaited_at awaited slots number = awaited_by awaited (session_at slots number)

-- each client waits for each server as often as its session awaits it: `aw` is whom each number's
-- session awaits, and `queue` who waits for each server
abbrev pub Linked : (ℕ → List ℕ) → (ℕ → List Waiter) → Type 0
Linked aw queue = (server number : ℕ)
    → times_in number (queue server) ≡ times_due (aw number) server

abbrev pub count_if : Bool → ℕ → ℕ
count_if true count = count
count_if false count = 0

-- one request of this number to this server is in no queue: it came back, or is not sent yet. All
-- else waits as it should
pub record IsLoose (aw : ℕ → List ℕ) (queue : ℕ → List Waiter) (number server : ℕ) : Type 0 where
  pub counts : (at other : ℕ)
      → times_in other (queue at) + count_if (server == at) (one_if (number == other))
      ≡ times_due (aw other) at

-- each client stands in the queue of each server as often as its session awaits it
abbrev pub AreLinked : {S : Type 0} → (S → List ℕ) → List (Option (ClientOf S)) → List LineState
    → Type 0
AreLinked awaited slots lines = Linked (awaited_at awaited slots) (waiters_at lines)

-- the request of a number whose session asks this server waits for none yet; if it asks nobody, all
-- wait as they should
abbrev pub IsAsker : (ℕ → List ℕ) → (ℕ → List Waiter) → ℕ → Option ℕ → Type 0
IsAsker aw queue number None = Linked aw queue
IsAsker aw queue number (Some server) = IsLoose aw queue number server

-- the number has no session, or its session awaits a server
abbrev pub IsNotForgotten : {S : Type 0} → (S → List ℕ) → List (Option (ClientOf S)) → ℕ → Type 0
IsNotForgotten awaited slots number =
    (session_at slots number ≡ None) ⊎ (awaited_at awaited slots number ≢ [])

-- one to whom something came from this server: a client, whose request is in no queue now; if it
-- came for a probe, or for a client that had given up, all wait as they should
abbrev pub IsFree : (ℕ → List ℕ) → (ℕ → List Waiter) → ℕ → Asker → Type 0
IsFree aw queue server (Client number) = IsLoose aw queue number server
IsFree aw queue server Probe = Linked aw queue
IsFree aw queue server (GaveUp number) = Linked aw queue

abbrev pub AwaitsBy : (ℕ → List ℕ) → ℕ → Asker → Type 0
AwaitsBy aw server (Client number) = 0 < times_due (aw number) server
AwaitsBy aw server Probe = Unit {0}
AwaitsBy aw server (GaveUp number) = Unit {0}

-- the first that waits for this server, if it is a client, awaits it
abbrev pub AwaitsFirst : (ℕ → List ℕ) → ℕ → Option Waiter → Type 0
AwaitsFirst aw server None = Unit {0}
AwaitsFirst aw server (Some waiter) = AwaitsBy aw server waiter.by

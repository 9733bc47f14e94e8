-- How many descriptors a server needs, and what fits into a limit.
use Rattle.std.specs.Prelude.{◌≡◌, ◌<◌, ◌≤◌, ◌⊎◌, ◌+◌, ◌-◌, ◌*◌, ◌^◌, ℕ, min}
use Rattle.tko_accept.specs.declared.allotment.Allotment.{Allotment}

-- the descriptors that are neither a worker's nor a client's: the standard streams, the listener,
-- and a dozen to spare
abbrev pub other_files : ℕ
other_files = 16

-- how many clients may wait for a worker that serves one at a time
abbrev pub most_waiting : ℕ
most_waiting = 64

-- the descriptors that the system's resolver opens for a worker while it looks up a host's name
abbrev pub look_up_files : ℕ
look_up_files = 2

-- the descriptors of an event-driven worker beside its connections to the servers: its poll, its
-- waker, and a new connection that is about to replace another
abbrev pub event_files : ℕ
event_files = 3

-- how many clients an event-driven server may have where nothing limits them
abbrev pub clients_without_limit : ℕ
clients_without_limit = 2 ^ 32 - 1

-- the most descriptors that one worker may need, so that no sum of them overflows
abbrev pub most_of_worker : ℕ
most_of_worker = 2 ^ 33

-- each worker has a connection to each server, the descriptors of a look-up, and a client; beside
-- that, some clients wait for a worker
abbrev pub needed_files : ℕ → ℕ → ℕ
needed_files threads servers =
    min (2 ^ 64 - 1)
    (threads * (servers + look_up_files + 1) + (other_files + most_waiting))

-- each event-driven worker has a connection to each server beside its own descriptors
abbrev pub needed_by_events : ℕ → ℕ → ℕ → ℕ
needed_by_events threads servers clients =
    min (2 ^ 64 - 1) (threads * (servers + event_files) + other_files + clients)

-- `workers` workers, each with `each` descriptors beside its client's, and `clients` clients
pub record Fits (limit threads each workers clients : ℕ) : Type 0 where
  pub some : (0 < workers) × (0 < clients)
  pub within : workers ≤ threads
  pub waiting : clients ≤ workers + most_waiting
  -- what the workers need beside their clients is left free, and each worker may have a client
  pub free : other_files + 1 + each ≤ limit → other_files + workers * each + clients ≤ limit
  pub served : other_files + 1 + each ≤ limit → workers ≤ clients
  -- with one worker more, or one client more, that would not hold
  pub most_workers : (workers ≡ threads)
      ⊎ (limit < other_files + (workers + 1) * (each + 1))
  pub most_clients : (clients ≡ workers + most_waiting)
      ⊎ (limit ≤ other_files + workers * each + clients)

-- `workers` event-driven workers, each with `each` descriptors, and `clients` clients, of which
-- `asked` may be connected
pub record FitsEvents (limit threads each asked workers clients : ℕ) : Type 0 where
  pub some : (0 < workers) × (0 < clients)
  pub within : (workers ≤ threads) × (clients ≤ asked)
  -- what the workers need is left free, and there may be a client for each
  pub free : other_files + 1 + each ≤ limit → other_files + workers * each + clients ≤ limit
  pub served : other_files + 1 + each ≤ limit → min workers asked ≤ clients
  -- with one worker more, or one client more, that would not hold
  pub most_workers : (workers ≡ threads)
      ⊎ (limit < other_files + (workers + 1) * (each + 1))
  pub most_clients : (clients ≡ asked) ⊎ (limit ≤ other_files + workers * each + clients)

-- nothing limits the descriptors
pub record IsUnlimited (threads : ℕ) (allotment : Allotment) : Type 0 where
  pub workers : allotment.workers ≡ threads
  pub clients : allotment.clients ≡ threads + most_waiting

-- all workers that are asked for, and all clients
pub record HasClients (threads asked : ℕ) (allotment : Allotment) : Type 0 where
  pub workers : allotment.workers ≡ threads
  pub clients : allotment.clients ≡ asked

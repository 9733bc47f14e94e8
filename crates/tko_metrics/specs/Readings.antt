-- What the workers of a server counted together.
use Rattle.std.specs.Prelude.{◌≡◌, ℕ, Bool, List, find, map, sum_by, Option, Some, None}
use Rattle.std.specs.List.{range_with_len}
use Rattle.tko_bytes.specs.Numbers.{capped}
use Rattle.tko_metrics.specs.declared.marking.Marking.{Marking}
use Rattle.tko_metrics.specs.declared.marking.Marking.TheVariants.{Up}
use Rattle.tko_metrics.specs.declared.reading.ServerNumber.{ServerNumber}
use Rattle.tko_metrics.specs.declared.reading.ServerNumber.TheVariants.{Sends, Probes, Ended, InFlight}
use Rattle.tko_metrics.specs.declared.reading.ServerReading.{ServerReading}
use Rattle.tko_metrics.specs.declared.sent_end.SentEnd.TheVariants as end
use Rattle.tko_metrics.specs.Marks.{is_mark}

-- the number of a server that is meant
abbrev pub server_number : ServerNumber → ServerReading → ℕ
server_number Sends reading = reading.sends
server_number Probes reading = reading.probes
server_number (Ended end.Reply) reading = reading.replies
server_number (Ended end.Timeout) reading = reading.timeouts
server_number (Ended end.Refused) reading = reading.refused
server_number (Ended end.Broken) reading = reading.broken
server_number (Ended end.Aborted) reading = reading.aborted
server_number InFlight reading = reading.in_flight

-- this number of all workers together, which stays at 2^64 - 1
abbrev pub total_of : ServerNumber → List ServerReading → ℕ
total_of which parts = capped (sum_by (server_number which) parts)

-- whether the worker has a mark on the server
abbrev pub is_marked_reading : ServerReading → Bool
is_marked_reading reading = is_mark reading.mark

-- the mark of the worker that has one, if any has
abbrev pub first_mark : Option ServerReading → Marking
first_mark (Some part) = part.mark
first_mark None = Up

-- since when it has it
abbrev pub first_since : Option ServerReading → ℕ
first_since (Some part) = part.since
first_since None = 0

-- when that worker probes the server next, if a probe is due
abbrev pub first_probe : Option ServerReading → Option ℕ
first_probe (Some part) = part.next_probe
first_probe None = None

-- which worker has it
abbrev pub first_worker : Option ServerReading → ℕ
first_worker (Some part) = part.worker
first_worker None = 0

-- what workers counted together of a server: the sums, and the mark and the next probe of the first
-- worker that has a mark
abbrev pub together : List ServerReading → ServerReading
together parts = record {
  sends = total_of Sends parts;
  probes = total_of Probes parts;
  replies = total_of (Ended end.Reply) parts;
  timeouts = total_of (Ended end.Timeout) parts;
  refused = total_of (Ended end.Refused) parts;
  broken = total_of (Ended end.Broken) parts;
  aborted = total_of (Ended end.Aborted) parts;
  in_flight = total_of InFlight parts;
  mark = first_mark (find is_marked_reading parts);
  since = first_since (find is_marked_reading parts);
  next_probe = first_probe (find is_marked_reading parts);
  worker = first_worker (find is_marked_reading parts);
}

-- what each of so many workers counted of a server, in the order of their numbers
abbrev pub AreOfWorkers : ℕ → List ServerReading → Type 0
AreOfWorkers count parts = map (λ part. part.worker) parts ≡ range_with_len 0 count

-- what so many workers counted of a server together
pub record IsOfWorkers (count : ℕ) (reading : ServerReading) : Type 0 where
  pub parts : List ServerReading
  pub each : AreOfWorkers count parts
  pub is : reading ≡ together parts

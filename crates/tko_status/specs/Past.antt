-- What was counted until moments of the last minute.
use Rattle.std.specs.Prelude.{◌≡◌, ℕ, ◌-◌, Bool, true, nat_le, List, [], ◌∷◌, ◌++◌, Option, Some, None, length, map, slice_get}
use Rattle.std.specs.Bool.{MatchBool}
use Rattle.std.specs.List.{filter}
use Rattle.tko_metrics.specs.declared.status.Status.{Status}
use Rattle.tko_metrics.specs.declared.times_reading.Bucket.{Bucket}
use Rattle.tko_metrics.specs.Statuses.{IsStatusOf}
use Rattle.tko_status.specs.declared.past.PastReading.{PastReading}

-- for how many milliseconds a reading is kept
abbrev pub kept_time : ℕ
kept_time = 60000

-- how many milliseconds lie between two readings at least
abbrev pub pause : ℕ
pause = 5000

-- whether a reading is kept at this moment
abbrev pub is_recent : ℕ → PastReading → Bool
is_recent now reading = nat_le (now - reading.moment) kept_time

-- the readings that are kept at this moment, in order
abbrev pub recent_of : ℕ → List PastReading → List PastReading
recent_of now kept = filter (is_recent now) kept

-- whether another reading is due after this one, if there is one
abbrev pub is_due_after : ℕ → Option PastReading → Bool
is_due_after now (Some last) = nat_le pause (now - last.moment)
is_due_after now None = true

abbrev pub is_due : ℕ → List PastReading → Bool
is_due now kept = is_due_after now (slice_get kept (length kept - 1))

-- how many are in each of the buckets
abbrev pub bucket_counts : List Bucket → List ℕ
bucket_counts buckets = map (λ bucket. bucket.count) buckets

-- a reading is what a status says of this moment
pub record IsReadingOf (moment : ℕ) (status : Status) (reading : PastReading) : Type 0 where
  pub at : reading.moment ≡ moment
  pub requests : reading.requests ≡ status.sums.requests
  pub times : map (λ each. each.items) reading.times.items
      ≡ map (λ server. bucket_counts server.times.buckets.items) status.timed.items

-- a reading of this moment was put behind those that are kept
pub record AddsReading (addresses : List (List ℕ)) (count now : ℕ) (kept new : List PastReading)
    : Type 0 where
  pub status : Status
  pub is_status : IsStatusOf addresses count status
  pub reading : PastReading
  pub is_reading : IsReadingOf now status reading
  pub added : new ≡ kept ++ reading ∷ []

-- what was too old is dropped, and a reading is added if one is due
abbrev pub KeepsReadings : List (List ℕ) → ℕ → ℕ → List PastReading → List PastReading → Type 0
KeepsReadings addresses count now old new =
    MatchBool (is_due now (recent_of now old))
    (AddsReading addresses count now (recent_of now old) new)
    (new ≡ recent_of now old)

-- How long something took, by bounds.
use Rattle.std.specs.Prelude.{◌≡◌, ℕ, ◌+◌, List, [], ◌∷◌, codes, map, nat_le, not, sum_by, take}
use Rattle.std.specs.List.{count_by, range_with_len}
use Rattle.tko_bytes.specs.Numbers.{capped}
use Rattle.tko_metrics.specs.declared.times_reading.Bucket.{Bucket}

-- the bounds of the buckets, in microseconds
abbrev pub bounds : List ℕ
bounds =
    250 ∷ 500 ∷ 1000 ∷ 2500 ∷ 5000 ∷ 10000 ∷ 25000 ∷ 50000 ∷ 100000 ∷ 250000 ∷ 500000
    ∷ 1000000 ∷ 2500000 ∷ 5000000 ∷ 10000000 ∷ []

-- the same in seconds, as they are shown; the last bucket has no bound
abbrev pub bound_words : List (List ℕ)
bound_words =
    codes "0.00025" ∷ codes "0.0005" ∷ codes "0.001" ∷ codes "0.0025" ∷ codes "0.005"
    ∷ codes "0.01" ∷ codes "0.025" ∷ codes "0.05" ∷ codes "0.1" ∷ codes "0.25" ∷ codes "0.5"
    ∷ codes "1" ∷ codes "2.5" ∷ codes "5" ∷ codes "10" ∷ codes "+Inf" ∷ []

-- how many buckets there are
abbrev pub bucket_count : ℕ
bucket_count = 16

-- the bucket of what took so long: as many bounds lie below that
abbrev pub bucket_of : List ℕ → ℕ → ℕ
bucket_of limits micros = count_by (λ bound. not (nat_le micros bound)) limits

-- how many are in the buckets up to this place, where each bucket alone has so many
abbrev pub at_most : List ℕ → ℕ → ℕ
at_most counts place = capped (sum_by (λ number. number) (take (place + 1) counts))

-- the buckets of a page have the bounds in order, and each counts what is in those up to it
pub record AreBuckets (counts : List ℕ) (buckets : List Bucket) : Type 0 where
  pub bounds : map (λ bucket. bucket.bound.now) buckets ≡ bound_words
  pub counts_are : map (λ bucket. bucket.count) buckets
      ≡ map (at_most counts) (range_with_len 0 bucket_count)

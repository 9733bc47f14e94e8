-- Quantiles of times that are counted by buckets.
use Rattle.std.specs.Prelude.{ℕ, ◌*◌, ◌==◌, ◌-◌, Bool, nat_le, if◌then◌else◌, List, [], ◌++◌, Option, Some, None, codes, length, slice_get}
use Rattle.std.specs.Option.{unwrap_or}
use Rattle.std.specs.List.{position}
use Rattle.tko_metrics.specs.Times.{bounds}
use Rattle.tko_status.specs.declared.quantile.Share.{Share}
use Rattle.tko_status.specs.declared.quantile.Share.TheVariants.{Half, NearlyAll}
use Rattle.tko_status.specs.Durations.{bound_text}

-- whether so many of all are at least a half of them, or 99 of 100
abbrev pub reaches : Share → ℕ → ℕ → Bool
reaches Half all count = nat_le all (2 * count)
reaches NearlyAll all count = nat_le (99 * all) (100 * count)

-- how many are in all buckets, where each counts those up to its bound
abbrev pub all_in : List ℕ → ℕ
all_in up_to = unwrap_or (slice_get up_to (length up_to - 1)) 0

-- the first bucket up to which this part of all lies; none where there are none at all
abbrev pub quantile_of : Share → List ℕ → Option ℕ
quantile_of share up_to =
    if all_in up_to == 0 then None else position (reaches share (all_in up_to)) up_to

-- what is in a bucket took at most its bound; in the one behind them, more than the last one
abbrev pub within_text : Option ℕ → List ℕ
within_text (Some micros) = codes "at most " ++ bound_text micros
within_text None = codes "over " ++ bound_text (unwrap_or (slice_get bounds (length bounds - 1)) 0)

abbrev pub known_within : Option ℕ → List ℕ
known_within (Some place) = within_text (slice_get bounds place)
known_within None = []

-- how long this part of all took at most; nothing where there were none
abbrev pub quantile_text : Share → List ℕ → List ℕ
quantile_text share up_to = known_within (quantile_of share up_to)

-- The parts of a meter.
use Rattle.std.specs.Prelude.{◌≡◌, ℕ, MatchOption, Option, Some, None, length, option_map}
use Rattle.std.specs.Arc.{arc_value}
use Rattle.tko_metrics.specs.declared.meter.Meter.{Meter}
use Rattle.tko_metrics.specs.declared.meter.SharedMeter.{SharedMeter}

-- a meter that is on, with a part for each of so many workers
abbrev pub HasParts : ℕ → Meter → Type 0
HasParts workers meter =
    MatchOption meter.shared ⊥ (λ shared. length (arc_value shared).workers.items ≡ workers)

-- how many parts a meter has; one that is off has none
abbrev pub parts_of : Option SharedMeter → ℕ
parts_of None = 0
parts_of (Some shared) = length shared.workers.items

abbrev pub meter_parts : Meter → ℕ
meter_parts meter = parts_of (option_map (λ shared. arc_value shared) meter.shared)

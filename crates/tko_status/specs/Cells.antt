-- The cells of tables.
use Rattle.std.specs.Prelude.{ℕ, Bool, true, false, List, ◌++◌, codes, decimal}
use Rattle.tko_metrics.specs.declared.reading.ServerReading.{ServerReading}
use Rattle.tko_status.specs.declared.quantile.Share.{Share}
use Rattle.tko_status.specs.Quantiles.{quantile_text}

unfoldable pub number_cell : ℕ → List ℕ
number_cell number = codes "<td>" ++ decimal number ++ codes "</td>"

-- how long a part of all answers took at most
unfoldable pub quantile_cell : Share → List ℕ → List ℕ
quantile_cell share up_to = codes "<td>" ++ quantile_text share up_to ++ codes "</td>"

-- how many requests are in flight to a server; workers that are not event-driven tell none
abbrev pub in_flight_cell : Bool → ℕ → List ℕ
in_flight_cell true number = number_cell number
in_flight_cell false number = codes "<td>&ndash;</td>"

-- what was sent to a server, and how much of it was answered
unfoldable pub count_cells : ServerReading → List ℕ
count_cells reading = number_cell reading.sends ++ number_cell reading.replies

-- how often what was sent to a server failed, and how
unfoldable pub outcome_cells : ServerReading → List ℕ
outcome_cells reading =
    number_cell reading.timeouts ++ number_cell reading.refused ++ number_cell reading.broken
    ++ number_cell reading.aborted

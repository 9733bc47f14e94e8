-- The seats of clients.
use Rattle.std.specs.Prelude.{ℕ, List, Option, slice_get}
use Rattle.std.specs.Option.{option_and_then}

-- the number of the client at a seat, if one is there
abbrev pub number_at : List (Option ℕ) → ℕ → Option ℕ
number_at numbers seat = option_and_then (λ number. number) (slice_get numbers seat)

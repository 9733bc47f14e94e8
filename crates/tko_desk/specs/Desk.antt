-- The idle passes that a desk holds.
use Rattle.std.specs.Prelude.{ℕ, ◌≤◌, List, length, All}
use Rattle.tko_tracker.specs.Seated.{IsOf, Seated, TrackerId}

-- these passes, and the greatest number of them
pub record HeldList : Type 0 where
  pub passes : List Seated
  pub most : ℕ

-- each is this tracker's, and there is room for all
pub record AreHeld (tracker : TrackerId) (capacity : ℕ) (held : HeldList) : Type 0 where
  pub of : All (IsOf tracker) held.passes
  pub within : length held.passes ≤ held.most
  pub room : held.most ≤ capacity

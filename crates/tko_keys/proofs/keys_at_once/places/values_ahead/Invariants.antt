use Rattle.std.specs.Prelude.{◌≤◌}
use Rattle.tko_keys.specs.KeysState.{values_ahead}
use Rattle.tko_keys.proofs.keys_at_once.places.values_ahead.Lts.Given.{Live-loop-place}

abbrev pub invariant-loop-place : Live-loop-place → Type 0
invariant-loop-place l = l.place ≤ values_ahead l.slots

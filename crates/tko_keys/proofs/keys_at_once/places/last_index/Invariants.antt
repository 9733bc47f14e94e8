use Rattle.std.specs.Prelude.{◌≡◌, ◌-◌, None, drop, length}
use Rattle.tko_keys.specs.KeysState.{first_send}
use Rattle.tko_keys.proofs.keys_at_once.places.last_index.Given as goal

abbrev pub invariant-loop-back : goal.invariant-loop-back
invariant-loop-back l = first_send l.server
    (drop (length l.sends.items - l.back) l.sends.items) ≡ None

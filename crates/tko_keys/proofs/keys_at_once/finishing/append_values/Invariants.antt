use Rattle.std.proofs.Common.{◌≡◌, ◌++◌, drop, flat_map}
use Rattle.tko_reply.specs.Answering.{Extends}
use Rattle.tko_keys.specs.KeysState.{KeySlot}
use Rattle.tko_keys.proofs.keys_at_once.finishing.append_values.Given as goal

abbrev pub invariant-loop-slot : goal.invariant-loop-slot
invariant-loop-slot l =
    (l.outbox ++ flat_map (λ (slot : KeySlot). slot.outbox) (drop l.slot-index l.slots)
    ≡ l.fn.outbox ++ flat_map (λ (slot : KeySlot). slot.outbox) l.slots)
    × Extends l.fn.outbox l.outbox

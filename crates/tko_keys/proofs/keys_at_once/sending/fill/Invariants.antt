use Rattle.std.proofs.Common.{◌≡◌, ◌++◌, ℕ, Bool, List, drop, take}
use Rattle.std.specs.VecDeque.{deque_capacity}
use Rattle.tko_keys.specs.KeyLines.{HasFilled, IsKeyLineFor}
use Rattle.tko_keys.specs.KeysState.{DueKey}
use Rattle.tko_keys.proofs.keys_at_once.sending.fill.Given as goal

abbrev pub invariant-loop : goal.invariant-loop
invariant-loop l = (stay : List DueKey) × (l.due.items ≡ drop l.counter l.fn.due.items ++ stay)
    × ((unique : Bool) (keys : List (List ℕ)) → IsKeyLineFor unique keys l.fn.line
    → HasFilled unique l.slots l.server l.short keys
    (take l.counter l.fn.due.items) l.fn.line stay l.line)
    × (deque_capacity l.due ≡ deque_capacity l.fn.due)

-- Items that are answered one after another.
use Rattle.std.proofs.Common.{◌≡◌, ℕ, Bool, true, false, List}
use Rattle.tko_text.specs.Reading.{Reading}
use Rattle.tko_demo.specs.Visits.{Nothing, OneOrNone, Serves, ServesOne, Visited, visit_state}
use Rattle.tko_demo.specs.declared.store.Store.{Store}

-- none was answered yet
pub serves_none : (from reading : Reading) (is_over : Bool) (store : Store) (out : List ℕ) → reading ≡ from
    → Serves (visit_state from is_over store out) (visit_state reading is_over store out)
serves_none from reading is_over store out is = rw is Nothing

-- where there is one, it was answered
pub serves_one : (old new : Visited) (is_one : Bool) → is_one ≡ true → OneOrNone is_one old new → ServesOne old new
serves_one old new true is one = one
serves_one old new false is none = absurd (cc)

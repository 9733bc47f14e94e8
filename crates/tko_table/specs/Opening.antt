-- The seats as they open: one for each thread, with the pass of that thread.
use Rattle.std.specs.Prelude.{◌≡◌, ℕ, ◌+◌, ◌<◌, nat_lt, if◌then◌else◌, List, [], ◌∷◌, length, slice_index_or}
use Rattle.atomic_table.specs.declared.shared.Seat.{Seat}
use Rattle.atomic_table.specs.Seated.{TableId}
use Rattle.tko_model.specs.Settings.{Settings}
use Rattle.tko_steps.specs.declared.phase.ThreadState.TheVariants.{NotEnrolled, Idle}
use Rattle.tko_table.specs.declared.pass.PassView.{PassView}
use Rattle.tko_table.specs.Steps.{view_of}

-- the pass of the thread of this place, where `drawn` threads are enrolled; it owns no server, made
-- no call, and has seen an empty history
pub record IsPassAt (s : Settings) (drawn place : ℕ) (pass : PassView) : Type 0 where
  pub settings : pass.settings ≡ s
  pub owned : pass.owned ≡ []
  pub mine : pass.mine ≡ []
  pub seen : pass.seen ≡ []
  pub state : pass.state ≡ (if nat_lt place drawn then Idle place else NotEnrolled)

abbrev pub ArePassesFrom : Settings → ℕ → ℕ → List PassView → Type 0
ArePassesFrom s drawn place [] = Unit {0}
ArePassesFrom s drawn place (pass ∷ passes) =
    IsPassAt s drawn place pass × ArePassesFrom s drawn (place + 1) passes

-- these are the passes of all threads from this place on
pub record HasPassesFrom (s : Settings) (drawn place : ℕ) (view : List PassView) : Type 0 where
  pub count : place + length view ≡ s.threads
  pub each : ArePassesFrom s drawn place view

-- a seat of this table with the pass of the thread that drew this number, which made no call and
-- has seen an empty history, and no slot
pub record IsSeatAt
    (s : Settings) (table : TableId) (number : ℕ) (seat : Seat (Unit {0}) (List PassView)) : Type 0
  where
    pub table_id : seat.table_id ≡ table
    pub slots : seat.me.1 ≡ []
    pub pass : PassView
    pub alone : view_of seat ≡ pass ∷ []
    pub settings : pass.settings ≡ s
    pub owned : pass.owned ≡ []
    pub mine : pass.mine ≡ []
    pub seen : pass.seen ≡ []
    pub state : pass.state ≡ Idle number

-- the seat at each place has the pass of that number
pub record AreSeats (s : Settings) (table : TableId)
    (seats : List (Seat (Unit {0}) (List PassView))) : Type 0 where
  pub each : (place : ℕ) (other : Seat (Unit {0}) (List PassView)) →
      place < length seats → IsSeatAt s table place (slice_index_or seats place other)

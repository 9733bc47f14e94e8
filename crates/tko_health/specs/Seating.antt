-- What a worker does that leaves its seat.
use Rattle.std.specs.Prelude.{◌≡◌, ℕ, List, All}
use Rattle.tko_model.specs.declared.mark.Op.TheVariants.{Release}
use Rattle.tko_model.specs.declared.mark.Reply.{Reply}
use Rattle.tko_model.specs.Records.{Called, Gains, HealthItem}

-- a call by which a worker gives up its mark of a server
pub record IsReleaseItem (it : HealthItem) : Type 0 where
  pub server : ℕ
  pub answer : Reply
  pub is : it ≡ Called Release server answer

-- from one state of a worker to the next it made calls of release, and no other
pub record ReleasesMarks {W : Type 0} (steps : W → HealthItem → W → Type 0) (old new : W)
    : Type 0 where
  pub items : List HealthItem
  pub each : All IsReleaseItem items
  pub gains : Gains steps old items new

-- a worker left, and this is its seat: before it gave the seat back, it made calls of release, and
-- no other
pub record Leaves
    {W I : Type 0}
    (steps : W → HealthItem → W → Type 0)
    (gives_back : W → I → Type 0)
    (worker : W)
    (idle : I) : Type 0
  where
    pub last : W
    pub releases : ReleasesMarks steps worker last
    pub back : gives_back last idle

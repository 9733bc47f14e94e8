-- Where a worker's health came from.
use Rattle.std.specs.Prelude.{List}
use Rattle.tko_model.specs.Records.{Gains, HealthItem}

-- a worker's health began so, and then made these calls, and no others
pub record IsReached {H : Type 0} (steps : H → HealthItem → H → Type 0) (seated : H → Type 0)
    (health : H) : Type 0 where
  pub first : H
  pub begun : seated first
  pub calls : List HealthItem
  pub made : Gains steps first calls health

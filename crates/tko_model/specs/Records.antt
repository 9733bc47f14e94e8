-- Records: lists that contracts see and the program does not keep. A step relation ties the object
-- before a call, the call's item and the object after it.
use Rattle.std.specs.Prelude.{◌≡◌, ℕ, List, [], ◌∷◌}
use Rattle.tko_model.specs.declared.mark.Op.{Op}
use Rattle.tko_model.specs.declared.mark.Reply.{Reply}

-- the steps of these items lead from the one object to the other, in order
abbrev pub Lead : {S A : Type 0} → (S → A → S → Type 0) → S → List A → S → Type 0
Lead step old [] new = new ≡ old
Lead {S} step old (item ∷ items) new = (mid : S) × step old item mid × Lead step mid items new

-- a record gains these items from the one object to the other
pub record Gains {S A : Type 0} (step : S → A → S → Type 0) (old : S) (items : List A) (new : S)
    : Type 0 where
  pub leads : Lead step old items new

-- an item of a health record: a call of an operation on a server, and its reply; or a request for
-- the right to probe a server, which was denied
pub data HealthItem : Type 0 where
  Called : (op : Op) (server : ℕ) (reply : Reply) → HealthItem
  NoDuty : (server : ℕ) → HealthItem

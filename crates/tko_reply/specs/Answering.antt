-- A retrieval of several keys, and bytes that are put at the end.
use Rattle.std.specs.Prelude.{◌≡◌, ℕ, Bool, true, false, List, [], ◌∷◌, ◌++◌}
use Rattle.tko_text.specs.declared.request.Request.{Request}
use Rattle.tko_text.specs.declared.request.Request.TheVariants.{Get, Gets}

-- a request for the values of these keys, with their cas numbers or without
abbrev pub retrieval : List (List ℕ) → Bool → Request
retrieval keys true = Gets keys
retrieval keys false = Get keys

-- a retrieval of several keys was split: its first key is left to it, and these are the others
pub record IsSplit (old new : Request) (left : List (List ℕ)) : Type 0 where
  pub key : List ℕ
  pub unique : Bool
  pub whole : old ≡ retrieval (key ∷ left) unique
  pub first : new ≡ retrieval (key ∷ []) unique

-- bytes were put at the end
pub record Extends (old new : List ℕ) : Type 0 where
  pub more : List ℕ
  pub is : new ≡ old ++ more

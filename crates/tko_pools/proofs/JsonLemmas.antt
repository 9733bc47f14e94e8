-- Lists of JSON values.
use Rattle.std.proofs.Common.{◌≡◌, suc, List, [], ◌∷◌, length, refl, ap}
use Rattle.serde_json.specs.declared.value.Value.{Value}
use Rattle.serde_json.specs.View.{items_view}
use Rattle.tko_pools.specs.Json.{texts_of}

-- a list has as many texts as values
pub length_texts : (values : List Value) → length (texts_of (items_view values)) ≡ length values
length_texts [] = refl
length_texts (value ∷ values) = ap suc (length_texts values)

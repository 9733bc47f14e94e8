-- Values at places of a text.
use Rattle.std.specs.Prelude.{ℕ, ◌+◌, ◌≤◌, List, Option, drop, length, map, take}
use Rattle.tko_text.specs.declared.response.body.Value.{Value}
use Rattle.tko_text.specs.declared.response.place.ValuePlace.{ValuePlace}
use Rattle.tko_text.specs.ResponseLines.{IsData}

-- the data at a place of a text
abbrev pub placed_data : List ℕ → ValuePlace → List ℕ
placed_data text place = take place.head.size (drop place.begin text)

-- the value of these parts
abbrev pub parts : List ℕ → ℕ → List ℕ → Option ℕ → Value
parts key flags bytes unique =
    record { key = key; flags = flags; «data» = bytes; unique = unique }

-- the value at a place of a text
abbrev pub value_at : List ℕ → ValuePlace → Value
value_at text place =
    parts place.key place.head.flags (placed_data text place) place.head.unique

abbrev pub values_in : List ℕ → List ValuePlace → List Value
values_in text places = map (value_at text) places

-- data are at this place of the text
pub record IsPlaceIn (text : List ℕ) (place : ValuePlace) : Type 0 where
  pub within : place.begin + place.head.size ≤ length text
  pub few : IsData (placed_data text place)

-- the keys of the values at places
abbrev pub keys_at : List ValuePlace → List (List ℕ)
keys_at places = map (λ (place : ValuePlace). place.key) places

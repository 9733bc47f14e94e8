-- A value, from what its first line announces and from where its data are.
use Rattle.std.specs.Prelude.{ℕ, ◌+◌, ◌≤◌, Bool, List, drop, length, take, Ok, Some}
use Rattle.tko_text.specs.declared.response.Response.TheVariants.{Values}
use Rattle.tko_text.specs.declared.response.body.Value.{Value}
use Rattle.tko_text.specs.declared.response.reader.Head.{Head}
use Rattle.tko_text.specs.declared.response.reader.ValueOffsets.{ValueOffsets}
use Rattle.tko_text.specs.ResponseFaults.{ReadsOf}
use Rattle.tko_text.specs.ResponseLines.{IsData}
use Rattle.tko_text.specs.Responses.{Retrieval}

abbrev pub value_of : List ℕ → Head → List ℕ → Value
value_of key head bytes =
    record { key = key; flags = head.flags; «data» = bytes; unique = head.unique }

-- the data at a place
abbrev pub data_at : ValueOffsets → List ℕ → List ℕ
data_at place bytes = take place.head.size (drop place.begin bytes)

-- the bytes begin with the value that is there
pub record IsPlaced (key : List ℕ) (unique : Bool) (bytes : List ℕ) (place : ValueOffsets)
    : Type 0 where
  pub within : place.begin + place.head.size ≤ length bytes
  pub few : IsData (data_at place bytes)
  pub reads : ReadsOf (Retrieval key unique) bytes
      (Ok (Values (Some (value_of key place.head (data_at place bytes))), place.len))

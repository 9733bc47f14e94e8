-- By how much counts have grown.
use Rattle.std.specs.Prelude.{ℕ, ◌-◌, List, length, map, slice_get}
use Rattle.std.specs.List.{range_with_len}
use Rattle.std.specs.Option.{unwrap_or}

-- the count at a place, 0 where there is none
abbrev pub count_at : List ℕ → ℕ → ℕ
count_at counts place = unwrap_or (slice_get counts place) 0

-- by how much the count at this place has grown
abbrev pub grown_at : List ℕ → List ℕ → ℕ → ℕ
grown_at counts before place = count_at counts place - count_at before place

-- by how much each count has grown
abbrev pub grown : List ℕ → List ℕ → List ℕ
grown counts before = map (grown_at counts before) (range_with_len 0 (length counts))

-- What is counted of lines.
use Rattle.std.specs.Prelude.{◌≡◌, ℕ, List, length, slice_index}
use Rattle.tko_explain.specs.Counts.{row_count}
use Rattle.tko_explain.specs.KeyReports.{keys_among, keys_with_target, refused_among}
use Rattle.tko_explain.specs.Moves.{moved_at}
use Rattle.tko_explain.specs.declared.key_tally.KeyTally.{KeyTally}

-- these lines were counted: how many are keys, how many are none, and of each child how many of the
-- keys each server gets, and how many go to another address
pub record AreTallied (lines : List (List ℕ)) (tally : KeyTally) : Type 0 where
  pub keys : tally.keys ≡ length (keys_among lines)
  pub refused : tally.refused ≡ refused_among lines
  pub each : (place server : ℕ)
      → row_count tally.children.items place server
      ≡ keys_with_target tally.config (keys_among lines) place server
  pub moved : (place : ℕ)
      → slice_index tally.moved place
      ≡ moved_at tally.config tally.compared (keys_among lines) place

-- A queue in a list of bytes: where it begins, and how far it was searched for LF.
use Rattle.std.specs.Prelude.{ℕ, ◌<◌, ◌≤◌, ◌≢◌, List, length, slice_index}
use Rattle.tko_bytes.specs.Lines.{line_feed}

-- the queue begins at `start`, and no LF is in it up to `searched`
pub record IsSearched (bytes : List ℕ) (start searched : ℕ) : Type 0 where
  pub begins : start ≤ searched
  pub ends : searched ≤ length bytes
  pub unended : (k : ℕ) → start ≤ k → k < searched → slice_index bytes k ≢ line_feed

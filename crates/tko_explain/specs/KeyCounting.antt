-- What is counted of a list of which a beginning is known.
use Rattle.std.specs.Prelude.{◌≡◌, ℕ, List, ◌++◌, Option, take}
use Rattle.serde_json.specs.View.{view}
use Rattle.serde_json.specs.declared.value.Value.{Value}
use Rattle.tko_bytes.specs.Lines.{HasNoEnd, lines_of}
use Rattle.tko_explain.specs.KeyTallies.{AreTallied}
use Rattle.tko_explain.specs.Moves.{IsComparedWith}
use Rattle.tko_explain.specs.declared.key_tally.KeyTally.{KeyTally}
use Rattle.tko_explain.specs.declared.key_counts.KeyCounts.{KeyCounts}
use Rattle.tko_pools.specs.Configs.{Configuration, IsMeaning, IsRoot}

-- how many bytes are kept of a line that has not ended: those of the longest key, a CR, and one
-- more, which makes the line too long for a key
abbrev pub kept_bytes : ℕ
kept_bytes = 252

-- these lines have ended in a list, and its last line, which has not, begins with these bytes:
-- whatever follows them
pub record HasBegunLine (list : List ℕ) (ended : List (List ℕ)) (begun : List ℕ) : Type 0 where
  pub unended : HasNoEnd begun
  pub lines : (more : List ℕ) → lines_of (list ++ more) ≡ ended ++ lines_of (begun ++ more)

-- an object is read from a text, which means this configuration
pub record IsConfigurationOf (json : List ℕ) (root : Value) (config : Configuration) : Type 0 where
  pub is_root : IsRoot json (view root)
  pub meaning : IsMeaning (view root) config

-- these lines were counted over what a text means, and over what it is compared with
pub record IsTalliedOver (json : List ℕ) (against : Option (List ℕ)) (lines : List (List ℕ))
    (root : Value) (tally : KeyTally) : Type 0 where
  pub is_read : IsConfigurationOf json root tally.config
  pub compared : IsComparedWith against (view root) tally.compared
  pub tallied : AreTallied lines tally

-- of a list that begins with these bytes the lines that have ended were counted
pub record IsCountedOver (json : List ℕ) (against : Option (List ℕ)) (list : List ℕ)
    (counts : KeyCounts) : Type 0 where
  pub ended : List (List ℕ)
  pub begun : List ℕ
  pub is_begun : HasBegunLine list ended begun
  pub tallied : IsTalliedOver json against ended counts.root counts.tally
  pub kept : counts.begun.items ≡ take kept_bytes begun

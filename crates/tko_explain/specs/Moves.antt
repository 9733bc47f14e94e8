-- Which keys go to another address than in another configuration.
use Rattle.std.specs.Prelude.{◌≡◌, ℕ, Bool, false, not, List, Option, Some, None, count_by, map, option_and_then, slice_get}
use Rattle.std.specs.List.{position}
use Rattle.std.specs.Str.{bytes_eq}
use Rattle.serde_json.specs.Data.{Data}
use Rattle.tko_explain.specs.Parts.{pool_names_of}
use Rattle.tko_pools.specs.Configs.{Configuration, IsMeaning, IsRoot, targets_of}

-- what a configuration is compared with
pub record Comparison : Type 0 where
  -- the other configuration
  pub config : Configuration
  -- of each child the place of the child of the other one that it is compared with, if there is one
  pub twins : List (Option ℕ)

-- the place of the first child of this name
unfoldable pub place_named : List (List ℕ) → List ℕ → Option ℕ
place_named names name = position (bytes_eq name) names

-- each child of an object's route is compared with the first of its name in the other's
abbrev pub twins_of : Data → Data → List (Option ℕ)
twins_of root other = map (place_named (pool_names_of other)) (pool_names_of root)

-- of these targets the address of that in the child at a place
abbrev pub target_address : List (List ℕ) → List ℕ → ℕ → Option (List ℕ)
target_address addresses targets place =
    option_and_then (slice_get addresses) (slice_get targets place)

-- whether there are two addresses, which are the same
abbrev pub are_same : Option (List ℕ) → Option (List ℕ) → Bool
are_same None there = false
are_same (Some here) None = false
are_same (Some here) (Some there) = bytes_eq here there

-- whether the target in the child at a place has another address than the one in its twin
abbrev pub is_moved_to : List (List ℕ) → List ℕ → ℕ → List (List ℕ) → List ℕ
    → Option (Option ℕ) → Bool
is_moved_to addresses targets place others there None = false
is_moved_to addresses targets place others there (Some twin) =
    not (are_same (target_address addresses targets place)
    (option_and_then (target_address others there) twin))

-- whether a key goes to another address in the child at a place
abbrev pub is_moved : Configuration → Option Comparison → ℕ → List ℕ → Bool
is_moved config None place key = false
is_moved config (Some other) place key =
    is_moved_to config.addresses (targets_of config key) place
    other.config.addresses (targets_of other.config key) (slice_get other.twins place)

-- how many of these keys do
abbrev pub moved_at : Configuration → Option Comparison → List (List ℕ) → ℕ → ℕ
moved_at config other keys place = count_by (is_moved config other place) keys

-- a text means the configuration that this object's one is compared with
pub record IsComparison (text : List ℕ) (root : Data) (compared : Comparison) : Type 0 where
  pub other : Data
  pub is_root : IsRoot text other
  pub meaning : IsMeaning other compared.config
  pub twins : compared.twins ≡ twins_of root other

-- the same of a text that may be there
abbrev pub IsComparedWith : Option (List ℕ) → Data → Option Comparison → Type 0
IsComparedWith None root None = Unit {0}
IsComparedWith None root (Some compared) = ⊥
IsComparedWith (Some text) root None = ⊥
IsComparedWith (Some text) root (Some compared) = IsComparison text root compared

-- How many keys of a list each server of each pool of a route gets, as it is printed.
use Rattle.std.specs.Prelude.{◌≡◌, ℕ, ◌+◌, Bool, not, List, [], ◌∷◌, ◌++◌, Option, Some, None, codes, count_by, decimal, filter, length, map, option_map, slice_get}
use Rattle.serde_json.specs.Data.{Data}
use Rattle.tko_bytes.specs.Lines.{lines_of}
use Rattle.tko_explain.specs.Counts.{is_number}
use Rattle.tko_explain.specs.Moves.{Comparison, IsComparedWith, moved_at}
use Rattle.tko_explain.specs.Parts.{pool_names_of}
use Rattle.tko_explain.specs.Printing.{named_line}
use Rattle.tko_pools.specs.Configs.{Configuration, IsMeaning, IsRoot, child_of, targets_of}
use Rattle.tko_pools.specs.Json.{pools_in}
use Rattle.tko_text.specs.Keys.{is_key}

-- the keys among lines
abbrev pub keys_among : List (List ℕ) → List (List ℕ)
keys_among lines = filter is_key lines

-- how many lines are no keys
abbrev pub refused_among : List (List ℕ) → ℕ
refused_among lines = count_by (λ line. not (is_key line)) lines

-- whether this server is the target of a key in the child at a place
abbrev pub is_target : Configuration → ℕ → ℕ → List ℕ → Bool
is_target config place server key = is_number server (slice_get (targets_of config key) place)

-- how many of these keys have this server as their target in the child at a place
abbrev pub keys_with_target : Configuration → List (List ℕ) → ℕ → ℕ → ℕ
keys_with_target config keys place server = count_by (is_target config place server) keys

-- so many lines are keys, and so many are none
abbrev pub listed_text : ℕ → ℕ → List ℕ
listed_text keys refused =
    codes "keys " ++ decimal keys ++ (codes " refused " ++ decimal refused) ++ codes "\n"

-- how many keys each server of a pool gets, which is the child at a place, where a server gets so
-- many in a child
unfoldable pub child_keys : Configuration → Data → (ℕ → ℕ → ℕ) → ℕ → List ℕ → List ℕ
child_keys config pools gets place name =
    named_line (codes "keys ") name (map (gets place) (child_of config.addresses pools name))

-- how many keys a pool's child sends to another address, where anything is compared
abbrev pub moved_text : List ℕ → Option ℕ → List ℕ
moved_text name None = []
moved_text name (Some moved) = named_line (codes "moved ") name (moved ∷ [])

-- the same of the pools of these names, which are children from this place on, where so many keys
-- go to another address in a child
abbrev pub children_keys : Configuration → Data → (ℕ → ℕ → ℕ) → (ℕ → Option ℕ) → ℕ → List (List ℕ)
    → List ℕ
children_keys config pools gets moved place [] = []
children_keys config pools gets moved place (name ∷ others) =
    child_keys config pools gets place name ++ moved_text name (moved place)
    ++ children_keys config pools gets moved (place + 1) others

-- what is printed of so many keys, so many other lines, what each server gets, and what goes to
-- another address
abbrev pub counted_text : Data → Data → Configuration → ℕ → ℕ → (ℕ → ℕ → ℕ) → (ℕ → Option ℕ)
    → List ℕ
counted_text root pools config keys refused gets moved =
    listed_text keys refused ++ children_keys config pools gets moved 0 (pool_names_of root)

-- a number, where anything is compared
abbrev pub if_compared : Option Comparison → ℕ → Option ℕ
if_compared other number = option_map (λ it. number) other

-- what is printed of these lines
abbrev pub key_list_text : Data → Data → Configuration → Option Comparison → List (List ℕ) → List ℕ
key_list_text root pools config other lines =
    counted_text root pools config (length (keys_among lines)) (refused_among lines)
    (keys_with_target config (keys_among lines))
    (λ place. if_compared other (moved_at config other (keys_among lines) place))

-- this is printed of these lines, over a configuration that is made of this object, and of what it
-- is compared with
pub record IsKeysText (root : Data) (config : Configuration) (other : Option Comparison)
    (lines : List (List ℕ)) (printed : List ℕ) : Type 0 where
  pub pools : Data
  pub has_pools : pools_in root ≡ Some pools
  pub prints : printed ≡ key_list_text root pools config other lines

-- a text means a configuration, the other, if there is one, means what it is compared with, and
-- this is printed of the lines of a list over them
pub record IsKeyReport (json : List ℕ) (against : Option (List ℕ)) (list printed : List ℕ)
    : Type 0 where
  pub root : Data
  pub config : Configuration
  pub other : Option Comparison
  pub is_root : IsRoot json root
  pub meaning : IsMeaning root config
  pub compared : IsComparedWith against root other
  pub prints : IsKeysText root config other (lines_of list) printed

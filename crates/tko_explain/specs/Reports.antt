-- What is printed of a configuration that is one.
use Rattle.std.specs.Prelude.{◌≡◌, ℕ, ◌+◌, List, [], ◌∷◌, ◌++◌, Option, Some, None, codes, decimal}
use Rattle.serde_json.specs.Data.{Data}
use Rattle.serde_json.specs.Find.{get}
use Rattle.tko_pools.specs.Configs.{Configuration, IsMeaning, IsRoot, child_of, ring_at, targets_of}
use Rattle.tko_pools.specs.Json.{pools_in, servers_named}
use Rattle.tko_pools.specs.SoftLimits.{soft_limit_named}
use Rattle.tko_explain.specs.OddAddresses.{AreAddressNotes}
use Rattle.tko_explain.specs.Parts.{pool_names_of}
use Rattle.tko_explain.specs.Placing.{placed_text, ring_text}
use Rattle.tko_explain.specs.Printing.{named_line}
use Rattle.tko_explain.specs.Repeats.{IsKeyText, repeats_text}
use Rattle.tko_explain.specs.Warnings.{warnings_text}

-- the addresses, which have the numbers from this one on
abbrev pub addresses_text : ℕ → List (List ℕ) → List ℕ
addresses_text number [] = []
addresses_text number (address ∷ others) =
    codes "server " ++ decimal number ++ codes " " ++ address ++ codes "\n"
    ++ addresses_text (number + 1) others

-- the soft limit of a pool, if it has one
unfoldable pub limit_text : List ℕ → Option ℕ → List ℕ
limit_text name None = []
limit_text name (Some limit) = named_line (codes "soft_limit ") name (limit ∷ [])

-- the child at a place, the pool of this name, with the numbers of its servers, its soft limit and
-- how it spreads keys
unfoldable pub child_text : Configuration → Data → ℕ → List ℕ → List ℕ
child_text config pools place name =
    named_line (codes "pool ") name (child_of config.addresses pools name)
    ++ limit_text name (soft_limit_named pools name)
    ++ placed_text name (get name pools) (ring_at config place)

-- the pools of these names, which are children from this place on
abbrev pub children_text : Configuration → Data → ℕ → List (List ℕ) → List ℕ
children_text config pools place [] = []
children_text config pools place (name ∷ others) =
    child_text config pools place name ++ children_text config pools (place + 1) others

-- what is to be known of the rings of these pools, which are children from this place on
abbrev pub rings_text : Configuration → Data → ℕ → List (List ℕ) → List ℕ
rings_text config pools place [] = []
rings_text config pools place (name ∷ others) =
    ring_text name (servers_named pools name) (ring_at config place)
    ++ rings_text config pools (place + 1) others

abbrev pub expiry_text : ℕ → List ℕ
expiry_text seconds = codes "failover_exptime " ++ decimal seconds ++ codes "\n"

-- each key, with its targets
abbrev pub routed_keys_text : Configuration → List (List ℕ) → List ℕ
routed_keys_text config [] = []
routed_keys_text config (key ∷ others) =
    named_line (codes "key ") key (targets_of config key) ++ routed_keys_text config others

-- the servers and the pools of the route
abbrev pub config_text : Data → Data → Configuration → List ℕ
config_text root pools config =
    addresses_text 0 config.addresses ++ children_text config pools 0 (pool_names_of root)

-- the greatest expiry and the targets of the keys
abbrev pub targets_text : Configuration → List (List ℕ) → List ℕ
targets_text config keys = expiry_text config.failover_exptime ++ routed_keys_text config keys

-- what is printed of the configuration of this object over these pools
abbrev pub report_text : Data → Data → Configuration → List (List ℕ) → List ℕ
report_text root pools config keys =
    config_text root pools config ++ targets_text config keys

-- what is warned of in a text of this object, which means this configuration over these pools: what
-- has no effect, what is named twice, the addresses that may be meant otherwise, what is to be
-- known of rings, and whether an object of the text has a key twice
pub record AreWarningsOf (json : List ℕ) (root pools : Data) (config : Configuration)
    (text : List ℕ) : Type 0 where
  pub odd : List ℕ
  pub odd_addresses : AreAddressNotes config.addresses odd
  pub key_text : List ℕ
  pub key : IsKeyText json key_text
  pub is : text ≡ warnings_text root ++ repeats_text root ++ odd
      ++ rings_text config pools 0 (pool_names_of root) ++ key_text

-- a text means a configuration, and this is what is warned of in it
pub record IsWarnedOf (json text : List ℕ) : Type 0 where
  pub root : Data
  pub pools : Data
  pub config : Configuration
  pub is_root : IsRoot json root
  pub meaning : IsMeaning root config
  pub has_pools : pools_in root ≡ Some pools
  pub warned : AreWarningsOf json root pools config text

-- what no configuration tells of its servers
abbrev pub values_note : List ℕ
values_note = codes "note: no server may hold a value above 1 MiB (memcached -I above 1m)"
    ++ codes ": it would be marked\n"

-- a text means a configuration, and this is what is printed of it and of these keys, with its
-- warnings, and then the note
pub record IsReport (json : List ℕ) (keys : List (List ℕ)) (printed : List ℕ) : Type 0 where
  pub root : Data
  pub pools : Data
  pub config : Configuration
  pub is_root : IsRoot json root
  pub meaning : IsMeaning root config
  pub has_pools : pools_in root ≡ Some pools
  pub warnings : List ℕ
  pub warned : AreWarningsOf json root pools config warnings
  pub prints : printed ≡ report_text root pools config keys ++ warnings ++ values_note

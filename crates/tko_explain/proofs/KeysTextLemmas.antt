-- What is printed of keys.
use Rattle.std.proofs.Common.{◌≡◌, ℕ, ◌+◌, List, [], ◌∷◌, ◌++◌, Option, Some, codes, length, map, slice_index, refl, ap, ap₂, ◌∙◌}
use Rattle.serde_json.specs.Data.{Data}
use Rattle.tko_explain.specs.Counts.{row_count}
use Rattle.tko_explain.specs.KeyReports.{IsKeysText, child_keys, children_keys, counted_text, if_compared, keys_among, listed_text, refused_among}
use Rattle.tko_explain.specs.KeyTallies.{AreTallied}
use Rattle.tko_explain.specs.Parts.{pool_names_of}
use Rattle.tko_explain.specs.Printing.{named_line}
use Rattle.tko_explain.specs.declared.key_tally.KeyTally.{KeyTally}
use Rattle.tko_pools.specs.Configs.{Configuration, child_of}
use Rattle.tko_pools.specs.Json.{pools_in}

-- functions with the same values give the same list
map-same : (f g : ℕ → ℕ) → ((n : ℕ) → f n ≡ g n) → (xs : List ℕ) → map f xs ≡ map g xs
map-same f g same [] = refl
map-same f g same (x ∷ xs) = rw (same x, map-same f g same xs) refl

module _ (config : Configuration) (pools : Data) (gets given : ℕ → ℕ → ℕ)
    (same : (place server : ℕ) → gets place server ≡ given place server) where
  child_keys-same : (place : ℕ) (name : List ℕ)
      → child_keys config pools gets place name ≡ child_keys config pools given place name
  unfolding child_keys
  child_keys-same place name =
      ap (λ counts. named_line (codes "keys ") name counts)
      (map-same (gets place) (given place) (same place) (child_of config.addresses pools name))

  children_keys-same : (moved gone : ℕ → Option ℕ) → ((place : ℕ) → moved place ≡ gone place)
      → (place : ℕ) (names : List (List ℕ))
      → children_keys config pools gets moved place names ≡ children_keys config pools given gone place names
  children_keys-same moved gone alike place [] = refl
  children_keys-same moved gone alike place (name ∷ others) =
      rw (child_keys-same place name, alike place, children_keys-same moved gone alike (place + 1) others) refl

-- what is printed of the counts of lines is what is printed of them
pub tallied_text : (root pools : Data) (lines : List (List ℕ)) (tally : KeyTally) (printed : List ℕ)
    → AreTallied lines tally → pools_in root ≡ Some pools
    → printed ≡ counted_text root pools tally.config tally.keys tally.refused
    (row_count tally.children.items) (λ place. if_compared tally.compared (slice_index tally.moved place))
    → IsKeysText root tally.config tally.compared lines printed
tallied_text root pools lines tally printed is has e = record {
  pools = pools;
  has_pools = has;
  prints = e ∙ ap₂ (λ keys refused. counted_text root pools tally.config keys refused
      (row_count tally.children.items) (λ place. if_compared tally.compared (slice_index tally.moved place)))
      is.keys is.refused
      ∙ ap (λ rest. listed_text (length (keys_among lines)) (refused_among lines) ++ rest)
      (children_keys-same tally.config pools _ _ is.each _ _
      (λ place. ap (if_compared tally.compared) (is.moved place)) 0 (pool_names_of root));
}

-- The configuration without pools.
use Rattle.std.proofs.Common.{◌≡◌, ◌<◌, ◌≤◌, ℕ, zero, suc, ◌+◌, List, [], ◌∷◌, ◌++◌, length, map, refl, ap, sym, subst, ◌∙◌, arith}
use Rattle.std.specs.List.{All, range_with_len}
use Rattle.std.specs.Prelude.{Option, None, replicate}
use Rattle.std.proofs.Math.Nat.{mod-one}
use Rattle.std.proofs.lemmas.List.{length-map, length-replicate}
use Rattle.std.proofs.lemmas.List.Elements.{All-nil, All-cons}
use Rattle.std.proofs.lemmas.List.FromFn.{length-map-range_with_len, map-range_with_len_more}
use Rattle.tko_pools.specs.Configs.{Configuration, IsSoundConfig, alone, in_order, numbers_below, targets_of}
use Rattle.tko_pools.specs.Children.{Child, IsSoundChild, hash_by, key_target, targets_for}
use Rattle.tko_model.specs.Limits.{max_servers}
use Rattle.tko_pools.specs.Routes.{default_exptime}
use Rattle.tko_pools.proofs.LimitLemmas.{IsSmall}

-- one more child
pub children-more : (count : ℕ) (children all : List Child) (child : Child)
    → children ≡ map alone (numbers_below count) → child ≡ alone count
    → all ≡ children ++ child ∷ [] → all ≡ map alone (numbers_below (count + 1))
children-more count children all child before last e =
    let more = map-range_with_len_more alone 0 count count (omega arith) in
    rw (e, before, last) (sym more)

-- the configuration is the one of these addresses
pub in_order-made : {X : Type 0} (text : X → List ℕ) (texts : List X) (addresses names : List (List ℕ)) (children : List Child) (groups : List ℕ) (limits : List (Option ℕ)) (count : ℕ)
    → addresses ≡ map text texts → names ≡ map text texts → children ≡ map alone (numbers_below count)
    → groups ≡ replicate (length texts) 0 → limits ≡ None ∷ [] → count ≡ length texts
    → record {
      addresses = addresses;
      names = names;
      children = children;
      failover_exptime = default_exptime;
      groups = groups;
      soft_limits = limits;
    } ≡ in_order (map text texts)
in_order-made text texts addresses names children groups limits count listed named numbered grouped limited counted =
    rw (listed, named, numbered, grouped, limited, counted, length-map texts text) refl

-- the server of a child with one server
targets-alone : (key numbers : List ℕ) → targets_for key (map alone numbers) ≡ numbers
targets-alone key [] = refl
targets-alone key (number ∷ numbers) =
    let first : key_target key (alone number) ≡ number = rw (mod-one (hash_by (alone number) key)) refl in
    ap (λ n. n ∷ targets_for key (map alone numbers)) first ∙ ap (λ ns. number ∷ ns) (targets-alone key numbers)

-- every key has all servers as its targets, in order
pub in_order-targets : {X : Type 0} (text : X → List ℕ) (texts : List X) (config : Configuration) (key : List ℕ)
    → config ≡ in_order (map text texts) → targets_of config key ≡ numbers_below (length texts)
unfolding targets_of
in_order-targets text texts config key made =
    ap (λ (at : Configuration). targets_for key at.children) made
    ∙ targets-alone key (numbers_below (length (map text texts)))
    ∙ ap numbers_below (length-map texts text)

abbrev Below : ℕ → Child → Type 0
Below bound child = All (λ number. number < bound) child.servers

below : (start count bound : ℕ) → start + count ≤ bound → All (Below bound) (map alone (range_with_len start count))
below start zero bound within = All-nil (Below bound)
below start (suc count) bound within =
    All-cons (Below bound) (alone start) _
    (All-cons (λ number. number < bound) start [] (omega (arith, within)) (All-nil (λ number. number < bound)))
    (below (start + 1) count bound (omega (arith, within)))

pub alone-sound : (number : ℕ) → IsSoundChild (alone number)
alone-sound number = record { some = omega arith; ring = tt }

each-sound : (numbers : List ℕ) → All IsSoundChild (map alone numbers)
each-sound [] = All-nil IsSoundChild
each-sound (number ∷ numbers) =
    All-cons IsSoundChild (alone number) (map alone numbers) (alone-sound number) (each-sound numbers)

one-group : (count : ℕ) → All (λ group. group < 1) (replicate count 0)
one-group zero = All-nil (λ group. group < 1)
one-group (suc count) = All-cons (λ group. group < 1) 0 (replicate count 0) (omega arith) (one-group count)

in_order-sound : (addresses : List (List ℕ)) → length addresses ≤ max_servers → IsSoundConfig (in_order addresses)
in_order-sound addresses few = record {
  children = each-sound (numbers_below (length addresses));
  named = sym (length-map-range_with_len alone 0 (length addresses));
  numbers = below 0 (length addresses) (length addresses) (omega arith);
  servers = few;
  groups = record {
    some = omega arith;
    few = omega arith;
    one_each = length-replicate (length addresses) 0;
    within = one-group (length addresses);
    small = All-cons IsSmall None [] tt (All-nil IsSmall);
  };
}

pub made-sound : {X : Type 0} (text : X → List ℕ) (texts : List X) (config : Configuration)
    → config ≡ in_order (map text texts) → length texts ≤ max_servers → IsSoundConfig config
made-sound text texts config made few =
    let counted : length (map text texts) ≤ max_servers = rw (length-map texts text) few in
    subst IsSoundConfig (sym made) (in_order-sound (map text texts) counted)

-- What holds of every configuration that is read: each child has a server, and each number is one.
use Rattle.std.proofs.Common.{◌≡◌, ◌<◌, ◌≤◌, ℕ, false, cond, List, [], ◌∷◌, length, map, refl, arith}
use Rattle.std.specs.Prelude.{◌==◌, Option, Some, None, get_or, option_map}
use Rattle.std.specs.List.{All}
use Rattle.std.specs.Option.{is_none, option_or}
use Rattle.std.specs.Ordering.{match_ordering, nat_cmp}
use Rattle.std.specs.Cmp.Lexicographic.{slice_cmp}
use Rattle.std.specs.declared.cmp.Ordering.TheVariants.{Less, Equal, Greater}
use Rattle.std.specs.List.{flat_map}
use Rattle.std.proofs.lemmas.List.{length-map}
use Rattle.std.proofs.lemmas.List.Elements.{All-nil, All-cons, All-head, All-map, All-weaker}
use Rattle.std.proofs.Math.Nat.{zero-lt-suc}
use Rattle.serde_json.specs.Data.{Data, null, boolean, number, string, array, object, Members, no_members, member}
use Rattle.serde_json.specs.Find.{get, get_member}
use Rattle.tko_pools.specs.Json.{pool_list, pool_of, pools_of, servers_named, servers_of}
use Rattle.tko_model.specs.Limits.{max_servers}
use Rattle.tko_pools.specs.Reasons.{BadAddress, BadKey, BadSoftLimit, EmptyPool, bad_address, pool_reason, pools_reason, unknown_child}
use Rattle.tko_pools.specs.Children.{AreChildren, Child, IsSoundChild}
use Rattle.tko_pools.specs.Configs.{AreGroups, IsSoundConfig, IsSoundName, IsSoundPool, addresses_of, child_of, numbers_of, soft_limits_in}
use Rattle.tko_pools.specs.PlacementFlaws.{placement_flaw}
use Rattle.tko_pools.specs.Groups.{first_place, groups_in, owners_of, owning}
use Rattle.tko_pools.specs.SoftLimits.{is_no_limit, limit_value, soft_limit_named}
use Rattle.tko_pools.specs.Numbering.{number_in}
use Rattle.tko_pools.proofs.ChildLemmas.{are-numbers, are-sound}
use Rattle.tko_pools.proofs.PlacedLemmas.{tested-none}
use Rattle.tko_pools.proofs.GroupLemmas.{few-places, length-owners}
use Rattle.tko_pools.proofs.HeldLemmas.{all-numbers-held}
use Rattle.tko_pools.proofs.LimitLemmas.{limits-small}
use Rattle.tko_pools.proofs.OwnerLemmas.{groups-below, some-below}
use Rattle.tko_pools.proofs.KnownLemmas.{IsKnown, all-flat, all-known, all-unmap, known-number}

-- Each child has a server.

option_or-none : {T : Type 0} (a b : Option T) → option_or a b ≡ None → (a ≡ None) × (b ≡ None)
option_or-none None b h = (refl, h)
option_or-none (Some x) b h = cc

map-none : {A B : Type 0} (f : A → B) (found : Option A) → option_map f found ≡ None → found ≡ None
map-none f None none = refl
map-none f (Some x) none = cc

pool-sound : (name : List ℕ) (servers : List (List ℕ)) (limit : Option Data) (value : Data)
    → pool_reason (record { name = name; servers = servers; soft_limit = limit; value = value }) ≡ None
    → (0 < length servers) × (placement_flaw value ≡ None)
pool-sound name [] limit value h = cc
pool-sound name (server ∷ servers) limit value h =
    let all = server ∷ servers in
    let filled = tested-none (length all == 0) (EmptyPool name) _ h in
    let listed = option_or-none (option_map BadAddress (bad_address all)) _ filled.1 in
    let limited = option_or-none (cond (is_no_limit limit) (Some (BadSoftLimit name)) None) (option_map (λ key. BadKey key name) (placement_flaw value)) listed.1 in
    (zero-lt-suc (length servers), map-none (λ key. BadKey key name) (placement_flaw value) limited.1)

-- a pool that is there is sound
abbrev IsServed : Option Data → Type 0
IsServed None = Unit {0}
IsServed (Some value) = IsSoundPool value

member-served : (name : List ℕ) (members : Members) → pools_reason (pools_of members) ≡ None
    → IsServed (get_member name members)
member-served name no_members h = tt
member-served name (member other value members) h =
    let both = option_or-none (pool_reason (pool_of other value)) (pools_reason (pools_of members)) h in
    let sound = pool-sound other (servers_of value) (limit_value value) value both.0 in
    let here : IsSoundPool value = record { some = sound.0; placed = sound.1 } in
    let later = member-served name members both.1 in
    elim (slice_cmp nat_cmp name other) as (λ o. IsServed (match_ordering o (get_member name members) (Some value) (get_member name members))) [
      | Less ↦ later
      | Equal ↦ here
      | Greater ↦ later
    ]

served-sound : (pools : Data) (name : List ℕ) (found : Option Data) → get name pools ≡ found → IsServed found
    → is_none found ≡ false → IsSoundName pools name
served-sound pools name None is served named = cc
served-sound pools name (Some value) is served named = record { pool = value; named = is; sound = served }

pub named-sound : (pools : Data) (name : List ℕ) → pools_reason (pool_list pools) ≡ None
    → is_none (get name pools) ≡ false → IsSoundName pools name
named-sound null name sound named = cc
named-sound (boolean b) name sound named = cc
named-sound (number n) name sound named = cc
named-sound (string s) name sound named = cc
named-sound (array items) name sound named = cc
named-sound (object members) name sound named =
    served-sound (object members) name (get_member name members) refl (member-served name members sound) named

pub children-sound : (pools : Data) (names : List (List ℕ)) → pools_reason (pool_list pools) ≡ None
    → unknown_child pools names ≡ None → All (IsSoundName pools) names
children-sound pools [] sound named = All-nil (IsSoundName pools)
children-sound pools (name ∷ names) sound named =
    let both = tested-none (is_none (get name pools)) name (unknown_child pools names) named in
    All-cons (IsSoundName pools) name names (named-sound pools name sound both.0) (children-sound pools names sound both.1)

-- The configuration of pools without a flaw and of names that are there.

abbrev AllBelow : ℕ → List ℕ → Type 0
AllBelow count numbers = All (λ number. number < count) numbers

numbers-below : (addresses : List (List ℕ)) (pools : Data) (name : List ℕ)
    → All (IsKnown addresses) (servers_named pools name)
    → AllBelow (length addresses) (child_of addresses pools name)
numbers-below addresses pools name known =
    let P : ℕ → Type 0 = λ number. number < length addresses in
    All-map
    P
    (number_in addresses)
    (servers_named pools name)
    (All-weaker (IsKnown addresses) (λ text. P (number_in addresses text)) (known-number addresses) (servers_named pools name) known)

-- what is known of the parts of a configuration, as they are made
pub record AreParts (pools : Data) (names addresses kept : List (List ℕ)) (children : List Child) (groups : List ℕ) (limits : List (Option ℕ)) : Type 0 where
  pub are_addresses : addresses ≡ addresses_of pools names
  pub are_names : kept ≡ names
  pub are_children : AreChildren addresses pools names children
  pub sound : All (IsSoundName pools) names
  pub some : 0 < length names
  pub within : length addresses ≤ max_servers
  pub are_groups : groups ≡ groups_in (numbers_of children) (length addresses)
  pub are_limits : limits ≡ soft_limits_in pools names (numbers_of children) (length addresses)

-- children with servers mean that there is one
some-servers : (children : List Child) (count : ℕ) → 0 < length children → All IsSoundChild children
    → All (λ (child : Child). AllBelow count child.servers) children → 0 < count
some-servers [] count some sound below = absurd (omega (arith, some))
some-servers (child ∷ children) count some sound below =
    some-below child.servers count (All-head IsSoundChild child children sound).some
    (All-head (λ (c : Child). AllBelow count c.servers) child children below)

module _ (pools : Data) (names addresses kept : List (List ℕ)) (children : List Child) (groups : List ℕ) (limits : List (Option ℕ)) (exptime : ℕ) (parts : AreParts pools names addresses kept children groups limits) where
  abbrev numbers : List (List ℕ)
  numbers = numbers_of children

  abbrev owners : List ℕ
  owners = owners_of numbers (length addresses)

  abbrev places : List ℕ
  places = owning owners (length numbers)

  are-all-sound : All IsSoundChild children
  are-all-sound = are-sound addresses pools names children parts.sound parts.are_children

  same-numbers : numbers ≡ map (child_of addresses pools) names
  same-numbers = are-numbers addresses pools names children parts.are_children

  numbers-are-below : All (AllBelow (length addresses)) numbers
  numbers-are-below =
      let known : All (λ name. All (IsKnown addresses) (servers_named pools name)) names =
      rw parts.are_addresses (all-flat (IsKnown (addresses_of pools names)) (servers_named pools) names (all-known (flat_map (servers_named pools) names) [])) in
      rw same-numbers (All-map
      (AllBelow (length addresses))
      (child_of addresses pools)
      names
      (All-weaker (λ name. All (IsKnown addresses) (servers_named pools name)) (λ name. AllBelow (length addresses) (child_of addresses pools name)) (numbers-below addresses pools) names known))

  children-below : All (λ (child : Child). AllBelow (length addresses) child.servers) children
  children-below = all-unmap (AllBelow (length addresses)) (λ (child : Child). child.servers) children numbers-are-below

  are-below : All (λ group. group < length places) groups
  are-below =
      let held = all-numbers-held pools names addresses numbers parts.are_addresses same-numbers in
      rw parts.are_groups (groups-below numbers (length addresses) owners places refl refl held)

  one-each : length groups ≡ length addresses
  one-each =
      rw (parts.are_groups, length-map owners (λ owner. first_place (λ place. place == owner) places)) (length-owners numbers (length addresses))

  few-groups : length places ≤ max_servers
  few-groups =
      let few = few-places owners (length numbers) in
      let owned = length-owners numbers (length addresses) in
      omega (arith, few, owned, parts.within)

  all-named : length names ≡ length children
  all-named =
      let count : length numbers ≡ length names = rw (same-numbers, length-map names (child_of addresses pools)) refl in
      let same : length numbers ≡ length children = length-map children (λ (child : Child). child.servers) in
      omega (arith, count, same)

  some-children : 0 < length children
  some-children = omega (arith, all-named, parts.some)

  are-groups : AreGroups (record {
    addresses = addresses;
    names = kept;
    children = children;
    failover_exptime = exptime;
    groups = groups;
    soft_limits = limits;
  })
  are-groups =
      let some = some-servers children (length addresses) some-children are-all-sound children-below in
      let grouped : 0 < length groups = rw one-each some in
      let count : length limits ≡ length places = rw (parts.are_limits, length-map places (λ place. soft_limit_named pools (get_or names place []))) refl in
      record {
        some = rw count (some-below groups (length places) grouped are-below);
        few = rw count few-groups;
        one_each = one-each;
        within = rw count are-below;
        small = rw parts.are_limits (limits-small pools names places);
      }

  pub is-sound : IsSoundConfig (record {
    addresses = addresses;
    names = kept;
    children = children;
    failover_exptime = exptime;
    groups = groups;
    soft_limits = limits;
  })
  is-sound =
      record {
        children = are-all-sound;
        named = rw parts.are_names all-named;
        numbers = children-below;
        servers = parts.within;
        groups = are-groups;
      }

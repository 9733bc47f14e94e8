-- Which server of a child a key belongs to.
use Rattle.std.proofs.Common.{◌≡◌, ◌<◌, ◌≤◌, ℕ, List, [], ◌∷◌, ◌++◌, length, map, refl, ap, sym, subst, ◌∙◌, drop, get_or, ◌+◌, add-one}
use Rattle.std.specs.Prelude.{◌%◌, Option, Some, None, IfSome, unwrap_or, option_map}
use Rattle.std.specs.List.{All}
use Rattle.std.proofs.Math.Nat.{mod-lt}
use Rattle.std.proofs.Math.Seq.{drop-cons}
use Rattle.std.proofs.lemmas.List.{append-nil, append_assoc, drop_all, length-map}
use Rattle.std.proofs.lemmas.List.Elements.{All-nil, All-cons, All-head, All-tail, All-get_or}
use Rattle.serde_json.specs.Data.{Data}
use Rattle.serde_json.specs.Find.{get}
use Rattle.tko_pools.specs.Children.{AreChildren, AreTargets, Child, IsChildNamed, IsChildOf, IsRingOver, IsSoundChild, IsTarget, hash_by, owner_place, key_target, targets_for}
use Rattle.tko_pools.specs.Configs.{IsSoundName, IsSoundPool, child_of, numbers_of}
use Rattle.tko_pools.specs.Json.{servers_named, servers_of}
use Rattle.tko_pools.specs.Numbering.{number_in}
use Rattle.tko_pools.specs.Placements.{kind_in}
use Rattle.tko_pools.specs.RingServers.{named_servers}
use Rattle.tko_pools.proofs.PlacedLemmas.{is-over, placed-weighed, servers-length}
use Rattle.tko_ring.proofs.MovementLemmas.{place_belongs}
use Rattle.tko_ring.proofs.OwnerLemmas.{only_owner}
use Rattle.tko_ring.specs.Rings.{BelongsOnlyTo, server_place}
use Rattle.tko_ring.specs.declared.point.Point.{Point}

pub place-within : (ring : Option (List Point)) (servers hash : ℕ) → 0 < servers
    → IfSome ring (IsRingOver servers) → owner_place ring servers hash < servers
place-within None servers hash some over = mod-lt hash some
place-within (Some ring) servers hash some over = over.within hash

by-modulus : (ring : Option (List Point)) (servers hash : ℕ) → ring ≡ None → owner_place ring servers hash ≡ hash % servers
by-modulus None servers hash none = refl
by-modulus (Some ring) servers hash none = cc

owned : (ring : Option (List Point)) (servers hash : ℕ) → IfSome ring (IsRingOver servers)
    → IfSome ring (λ points. BelongsOnlyTo points hash (owner_place ring servers hash))
owned None servers hash over = tt
owned (Some ring) servers hash over =
    only_owner ring hash (server_place ring hash) (place_belongs ring hash over.ordered over.some)

is-target : (key : List ℕ) (child : Child) → IsSoundChild child → IsTarget key child (key_target key child)
is-target key child sound =
    let count = length child.servers in
    let hash = hash_by child key in
    record {
      place = owner_place child.ring count hash;
      within = place-within child.ring count hash sound.some sound.ring;
      is = refl;
      by_modulus = by-modulus child.ring count hash;
      by_ring = owned child.ring count hash sound.ring;
    }

pub are-targets : (key : List ℕ) (children : List Child) → All IsSoundChild children
    → AreTargets key children (targets_for key children)
are-targets key [] sound = tt
are-targets key (child ∷ children) sound = (
  is-target key child (All-head IsSoundChild child children sound),
  are-targets key children (All-tail IsSoundChild child children sound),
)

-- each target is the number of a server
pub targets-below : (key : List ℕ) (count : ℕ) (children : List Child) → All IsSoundChild children
    → All (λ (child : Child). All (λ number. number < count) child.servers) children
    → All (λ number. number < count) (targets_for key children)
targets-below key count [] sound below = All-nil (λ number. number < count)
targets-below key count (child ∷ children) sound below =
    let Below : Child → Type 0 = λ it. All (λ number. number < count) it.servers in
    let here = All-head IsSoundChild child children sound in
    let place = owner_place child.ring (length child.servers) (hash_by child key) in
    let inside = place-within child.ring (length child.servers) (hash_by child key) here.some here.ring in
    All-cons
    (λ number. number < count)
    (key_target key child)
    (targets_for key children)
    (All-get_or (λ number. number < count) child.servers place 0 inside (All-head Below child children below))
    (targets-below key count children (All-tail IsSoundChild child children sound) (All-tail Below child children below))

-- a child that is a sound pool
pub sound-child : (addresses : List (List ℕ)) (pool : Data) (child : Child) → IsSoundPool pool
    → IsChildOf addresses pool child → IsSoundChild child
sound-child addresses pool child sound is =
    let same : length child.servers ≡ length (servers_of pool) =
    ap length is.servers ∙ length-map (servers_of pool) (number_in addresses) in
    record {
      some = rw same sound.some;
      ring = is-over (named_servers pool) (kind_in pool) child.ring (length child.servers) (placed-weighed pool sound.placed) (servers-length pool ∙ sym same) is.ring;
    }

same-pool : (one other : Option Data) (x y : Data) → one ≡ other → one ≡ Some x → other ≡ Some y → x ≡ y
same-pool one other x y same is also = cc

named-child : (addresses : List (List ℕ)) (pools : Data) (name : List ℕ) (child : Child)
    → IsSoundName pools name → IsChildNamed addresses pools name child → IsSoundChild child
named-child addresses pools name child sound is =
    let same : sound.pool ≡ is.pool = same-pool _ _ sound.pool is.pool refl sound.named is.named in
    sound-child addresses is.pool child (subst IsSoundPool same sound.sound) is.is

pub are-sound : (addresses : List (List ℕ)) (pools : Data) (names : List (List ℕ)) (children : List Child)
    → All (IsSoundName pools) names → AreChildren addresses pools names children → All IsSoundChild children
are-sound addresses pools [] [] sound are = All-nil IsSoundChild
are-sound addresses pools [] (child ∷ children) sound are = absurd are
are-sound addresses pools (name ∷ names) [] sound are = absurd are
are-sound addresses pools (name ∷ names) (child ∷ children) sound are =
    All-cons IsSoundChild child children
    (named-child addresses pools name child (All-head (IsSoundName pools) name names sound) are.0)
    (are-sound addresses pools names children (All-tail (IsSoundName pools) name names sound) are.1)

named-numbers : (addresses : List (List ℕ)) (pools : Data) (name : List ℕ) (child : Child)
    → IsChildNamed addresses pools name child → child.servers ≡ child_of addresses pools name
named-numbers addresses pools name child is =
    let servers : servers_named pools name ≡ servers_of is.pool =
    ap (λ found. unwrap_or (option_map servers_of found) []) is.named in
    is.is.servers ∙ ap (map (number_in addresses)) (sym servers)

-- the numbers of their servers
pub are-numbers : (addresses : List (List ℕ)) (pools : Data) (names : List (List ℕ)) (children : List Child)
    → AreChildren addresses pools names children → numbers_of children ≡ map (child_of addresses pools) names
are-numbers addresses pools [] [] are = refl
are-numbers addresses pools [] (child ∷ children) are = absurd are
are-numbers addresses pools (name ∷ names) [] are = absurd are
are-numbers addresses pools (name ∷ names) (child ∷ children) are =
    ap (λ first. first ∷ numbers_of children) (named-numbers addresses pools name child are.0)
    ∙ ap (λ rest. child_of addresses pools name ∷ rest) (are-numbers addresses pools names children are.1)

-- a list from an index on
rest-of : {X Y : Type 0} (text : X → Y) (names : List X) (index : ℕ) (d : X) → index < length names
    → map text (drop index names) ≡ text (get_or names index d) ∷ map text (drop (index + 1) names)
rest-of text names index d within =
    rw (add-one index) (ap (map text) (drop-cons names index d within))

-- whether children go on with those of the names that are left
abbrev pub GoOn : {X : Type 0} → (X → List ℕ) → List (List ℕ) → Data → List X → ℕ → List Child → Type 0
GoOn text addresses pools names index children =
    All (IsSoundName pools) (map text (drop index names))
    × ((more : List Child) → AreChildren addresses pools (map text (drop index names)) more
    → AreChildren addresses pools (map text names) (children ++ more))

module _ {X : Type 0} (text : X → List ℕ) (addresses : List (List ℕ)) (pools : Data) (names : List X) (index : ℕ) (children : List Child) (before : GoOn text addresses pools names index children) where
  pub first-name : (d : X) → index < length names → IsSoundName pools (text (get_or names index d))
  first-name d within =
      All-head (IsSoundName pools) (text (get_or names index d)) (map text (drop (index + 1) names))
      (subst (All (IsSoundName pools)) (rest-of text names index d within) before.0)

  pub one-child-more : (d : X) (child : Child) (all : List Child) → index < length names
      → IsChildNamed addresses pools (text (get_or names index d)) child → all ≡ children ++ child ∷ []
      → GoOn text addresses pools names (index + 1) all
  one-child-more d child all within is pushed =
      let rest = rest-of text names index d within in (
        All-tail (IsSoundName pools) (text (get_or names index d)) (map text (drop (index + 1) names))
            (subst (All (IsSoundName pools)) rest before.0),
        λ more are.
            let longer = before.1 (child ∷ more) (subst (λ left. AreChildren addresses pools left (child ∷ more)) (sym rest) (is, are)) in
            subst (AreChildren addresses pools (map text names))
            (sym (ap (λ it. it ++ more) pushed ∙ append_assoc children (child ∷ []) more)) longer,
      )

  pub no-name-left : length names ≤ index → AreChildren addresses pools (map text names) children
  no-name-left past =
      let none : map text (drop index names) ≡ [] = ap (map text) (drop_all index names past) in
      subst (AreChildren addresses pools (map text names)) (append-nil children)
      (before.1 [] (subst (λ left. AreChildren addresses pools left []) (sym none) tt))

pub same-pool-sound : (pools : Data) (name : List ℕ) (pool : Data) → IsSoundName pools name
    → get name pools ≡ Some pool → IsSoundPool pool
same-pool-sound pools name pool sound named =
    subst IsSoundPool (same-pool _ _ sound.pool pool refl sound.named named) sound.sound

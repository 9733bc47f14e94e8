-- A route has a child.
use Rattle.std.proofs.Common.{◌≡◌, ◌<◌, ℕ, Bool, true, false, cond, List, [], ◌∷◌, length, subst}
use Rattle.std.specs.Prelude.{◌==◌, Option, Some, None, codes, option_map, option_and_then}
use Rattle.std.proofs.Math.Nat.{zero-lt-suc}
use Rattle.serde_json.specs.Data.{Data, null, boolean, number, string, array, object, Items}
use Rattle.serde_json.specs.Find.{as_array, get}
use Rattle.tko_pools.specs.Json.{child_name, child_names, texts_of}
use Rattle.tko_pools.specs.Routes.{RouteRead, failover_route, is_failover, exptime_in, listed_children, names_in, route_in, route_of, route_over}

abbrev HasChild : Option RouteRead → Type 0
HasChild None = Unit {0}
HasChild (Some route) = 0 < length route.children

abbrev AreSome : Option (List (List ℕ)) → Type 0
AreSome None = Unit {0}
AreSome (Some names) = 0 < length names

single-has : (name : Option (List ℕ)) → HasChild (option_map (λ n. route_over (n ∷ []) 60) name)
single-has None = tt
single-has (Some name) = zero-lt-suc 0

joined-some : (name : List ℕ) (others : Option (List (List ℕ))) → AreSome (option_map (λ names. name ∷ names) others)
joined-some name None = tt
joined-some name (Some names) = zero-lt-suc (length names)

named-some : (name : Option (List ℕ)) (others : Option (List (List ℕ)))
    → AreSome (option_and_then (λ n. option_map (λ names. n ∷ names) others) name)
named-some None others = tt
named-some (Some name) others = joined-some name others

tested-some : (none : Bool) (text : List ℕ) (texts : List (List ℕ))
    → AreSome (cond none None (child_names (text ∷ texts)))
tested-some true text texts = tt
tested-some false text texts = named-some (child_name text) (child_names texts)

texts-some : (texts : List (List ℕ)) → AreSome (cond (length texts == 0) None (child_names texts))
texts-some [] = tt
texts-some (text ∷ texts) = tested-some (length (text ∷ texts) == 0) text texts

listed-some : (items : Option Items) → AreSome (option_and_then names_in items)
listed-some None = tt
listed-some (Some items) = texts-some (texts_of items)

over-has : (exptime : Option ℕ) (names : List (List ℕ)) → 0 < length names
    → HasChild (option_map (route_over names) exptime)
over-has None names some = tt
over-has (Some seconds) names some = some

read-has : (exptime : Option ℕ) (names : Option (List (List ℕ))) → AreSome names
    → HasChild (option_and_then (λ children. option_map (route_over children) exptime) names)
read-has exptime None some = tt
read-has exptime (Some names) some = over-has exptime names some

failover-has : (value : Data) → HasChild (failover_route value)
failover-has value =
    let read = read-has (exptime_in value) (listed_children value) (listed-some (option_and_then as_array (get (codes "children") value))) in
    elim (is_failover value) as (λ b. HasChild (cond b (option_and_then (λ children. option_map (route_over children) (exptime_in value)) (listed_children value)) None)) [
      | true ↦ read
      | false ↦ tt
    ]

value-has : (value : Data) → HasChild (route_of value)
value-has null = tt
value-has (boolean b) = tt
value-has (number n) = tt
value-has (string text) = single-has (child_name text)
value-has (array items) = tt
value-has (object members) = failover-has (object members)

found-has : (value : Option Data) → HasChild (option_and_then route_of value)
found-has None = tt
found-has (Some value) = value-has value

pub route-has-child : (root : Data) (route : RouteRead) → route_in root ≡ Some route → 0 < length route.children
route-has-child root route is = subst HasChild is (found-has (get (codes "route") root))

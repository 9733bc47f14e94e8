-- The pools of a route, one after another.
use Rattle.std.proofs.Common.{◌≡◌, ◌<◌, ℕ, List, [], ◌∷◌, ◌+◌, ◌++◌, get_or, length, map, string_bytes, sym, take, ap, ◌∙◌, arith}
use Rattle.std.proofs.lemmas.List.{map-append, take_more}
use Rattle.std.proofs.lemmas.List.FromFn.{map-range_with_len_more}
use Rattle.tko_metrics.specs.declared.health.ShownPool.{ShownPool}
use Rattle.tko_pools.specs.Configs.{Configuration, numbers_below, servers_at}

-- one name more
pub names_next : {X : Type 0} (text : X → List ℕ) (names : List X) (place : ℕ) (name : X) (pools all : List ShownPool) (it : ShownPool)
    → place < length names → name ≡ get_or names place name
    → map (λ pool. string_bytes pool.name) pools ≡ map text (take place names)
    → string_bytes it.name ≡ text name → all ≡ pools ++ it ∷ []
    → map (λ pool. string_bytes pool.name) all ≡ map text (take (place + 1) names)
names_next text names place name pools all it within found before is pushed =
    ap (map (λ pool. string_bytes pool.name)) pushed
    ∙ map-append (λ pool. string_bytes pool.name) pools (it ∷ [])
    ∙ ap (λ front. front ++ string_bytes it.name ∷ []) before
    ∙ ap (λ last. map text (take place names) ++ last ∷ []) (is ∙ ap text found)
    ∙ sym (ap (map text) (take_more names place name within) ∙ map-append text (take place names) (get_or names place name ∷ []))

-- the servers of one pool more
pub servers_next : (config : Configuration) (place : ℕ) (pools all : List ShownPool) (it : ShownPool)
    → map (λ pool. pool.servers.items) pools ≡ map (servers_at config) (numbers_below place)
    → it.servers.items ≡ servers_at config place → all ≡ pools ++ it ∷ []
    → map (λ pool. pool.servers.items) all ≡ map (servers_at config) (numbers_below (place + 1))
servers_next config place pools all it before is pushed =
    ap (map (λ pool. pool.servers.items)) pushed
    ∙ map-append (λ pool. pool.servers.items) pools (it ∷ [])
    ∙ ap (λ front. front ++ it.servers.items ∷ []) before
    ∙ ap (λ last. map (servers_at config) (numbers_below place) ++ last ∷ []) is
    ∙ sym (map-range_with_len_more (servers_at config) 0 place place (omega arith))

-- When a ring can be made of the servers of a pool.
use Rattle.std.proofs.Common.{◌≡◌, ◌<◌, Bool, true, false, List, [], ◌∷◌, length, refl, sym, ◌&&◌, inl, inr}
use Rattle.std.specs.Prelude.{nat_lt, nat_le, ◌↔◌, IsTrue}
use Rattle.std.specs.List.{All, list_all}
use Rattle.std.proofs.lemmas.Bool.{cases_Bool, and_from, and_parts, leb-true, le-leb, ltb-true, lt-ltb}
use Rattle.std.proofs.lemmas.List.Elements.{All-nil, All-cons, All-head, All-tail}
use Rattle.tko_pools.specs.RingServers.{are_fit, max_weight}
use Rattle.tko_ring.specs.Servers.{AreWeighed, NamedServer, total_weight}

abbrev weighs : NamedServer → Bool
weighs server = nat_lt 0 server.weight

abbrev Weighs : NamedServer → Type 0
Weighs server = 0 < server.weight

each-weighs : (servers : List NamedServer) → list_all weighs servers ≡ true → All Weighs servers
each-weighs [] all = All-nil Weighs
each-weighs (server ∷ others) all =
    let both = and_parts (weighs server) (list_all weighs others) all in
    All-cons Weighs server others (ltb-true 0 server.weight both.0) (each-weighs others both.1)

all-weigh : (servers : List NamedServer) → All Weighs servers → list_all weighs servers ≡ true
all-weigh [] all = refl
all-weigh (server ∷ others) all =
    and_from (weighs server) (list_all weighs others) (lt-ltb 0 server.weight (All-head Weighs server others all))
    (all-weigh others (All-tail Weighs server others all))

pub fit-weighed : (servers : List NamedServer) → are_fit servers ≡ true → AreWeighed servers
unfolding are_fit
fit-weighed servers fit =
    let front = and_parts (nat_lt 0 (length servers) && list_all weighs servers) (nat_le (total_weight servers) max_weight) fit in
    let some = and_parts (nat_lt 0 (length servers)) (list_all weighs servers) front.0 in
    record {
      some = ltb-true 0 (length servers) some.0;
      each = each-weighs servers some.1;
      total = leb-true (total_weight servers) max_weight front.1;
    }

pub weighed-fit : (servers : List NamedServer) → AreWeighed servers → are_fit servers ≡ true
unfolding are_fit
weighed-fit servers weighed =
    and_from (nat_lt 0 (length servers) && list_all weighs servers) (nat_le (total_weight servers) max_weight)
    (and_from (nat_lt 0 (length servers)) (list_all weighs servers) (lt-ltb 0 (length servers) weighed.some) (all-weigh servers weighed.each))
    (le-leb (total_weight servers) max_weight weighed.total)

-- a test that holds of weighed servers alone is whether they are fit
pub tested-fit : (test : Bool) (servers : List NamedServer) → (IsTrue test ↔ AreWeighed servers) → test ≡ are_fit servers
tested-fit true servers tells = sym (weighed-fit servers (tells.0 refl))
tested-fit false servers tells =
    elim (cases_Bool (are_fit servers)) [
      | inl fit ↦ let never : false ≡ true = tells.1 (fit-weighed servers fit) in cc
      | inr unfit ↦ sym unfit
    ]

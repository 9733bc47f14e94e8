-- The packed words and what they hold.
use Rattle.std.proofs.Common.{◌≡◌, ℕ, zero, suc, ◌+◌, true, cond, List, ◌∷◌, set, map, replicate, refl, sym, ap, ◌∙◌}
use Rattle.std.proofs.lemmas.Bool.{cond-true}
use Rattle.std.proofs.lemmas.List.{map-set}
use Rattle.tko_model.specs.declared.mark.Mark.{Mark}
use Rattle.tko_model.specs.declared.mark.Mark.TheVariants.{Up}
use Rattle.tko_model.specs.Settings.{Settings}
use Rattle.tko_model.specs.declared.state.ServerState.{ServerState}
use Rattle.tko_model.specs.Tracker.{server_at}
use Rattle.tko_word.specs.Words.{firm_in, held_in, server_in}
use Rattle.tko_steps.specs.declared.table.Action.TheVariants.{Exchange}
use Rattle.tko_model.specs.Groups.{groups}
use Rattle.tko_steps.specs.declared.phase.Slots.{Slots}
use Rattle.tko_steps.specs.Core.{Shared, no_slots, opened_words, servers_after, slots_in, with_slots}
use Rattle.tko_steps.specs.Table.{same_server}

-- what packed words hold
abbrev pub shared_in : List ℕ → List ℕ → ℕ → Shared
shared_in health soft enrolled =
    record { servers = map server_in health; slots = map slots_in soft; enrolled = enrolled }

map-replicate : {B : Type 0} (f : ℕ → B) (n word : ℕ) → map f (replicate n word) ≡ replicate n (f word)
map-replicate f zero word = refl
map-replicate f (suc n) word = ap (λ rest. f word ∷ rest) (map-replicate f n word)

pub opened_is : (s : Settings) (word empty : ℕ) (health soft : List ℕ) → health ≡ replicate s.servers word
    → soft ≡ replicate (groups s) empty
    → server_in word ≡ record { mark = Up 0; stamp = s.opening_stamp } → firm_in empty ≡ 0 → held_in empty ≡ 0
    → shared_in health soft 0 ≡ opened_words s
opened_is s word empty health soft made made_soft one firm held =
    let servers : map server_in health ≡ replicate s.servers (record { mark = Up 0; stamp = s.opening_stamp }) =
    ap (map server_in) made ∙ map-replicate server_in s.servers word ∙ ap (replicate s.servers) one in
    let none : slots_in empty ≡ no_slots =
    ap (λ n. let it : Slots = record { firm = n; held = held_in empty } in it) firm
    ∙ ap (λ n. let it : Slots = record { firm = 0; held = n } in it) held in
    let slots : map slots_in soft ≡ replicate (groups s) no_slots =
    ap (map slots_in) made_soft ∙ map-replicate slots_in (groups s) empty ∙ ap (replicate (groups s)) none in
    ap (λ it. let all : Shared = record { servers = it; slots = map slots_in soft; enrolled = 0 } in all) servers
    ∙ ap (λ it. let all : Shared = record { servers = (opened_words s).servers; slots = it; enrolled = 0 } in all) slots

pub exchange_is : (health soft : List ℕ) (enrolled server word : ℕ) (found : ServerState) (mark : Mark)
    → server_in word ≡ record { mark = mark; stamp = found.stamp + 1 }
    → same_server (server_at (shared_in health soft enrolled).servers server) found ≡ true
    → shared_in (set health server word) soft enrolled
    ≡ (let now = shared_in health soft enrolled in
    record { servers = servers_after now.servers server (Exchange found mark); slots = now.slots; enrolled = now.enrolled })
exchange_is health soft enrolled server word found mark one test =
    let new : ServerState = record { mark = mark; stamp = found.stamp + 1 } in
    let old = map server_in health in
    let servers : map server_in (set health server word) ≡ cond (same_server (server_at old server) found) (set old server new) old =
    map-set server_in health server word ∙ ap (set old server) one ∙ sym (cond-true _ _ _ test) in
    ap (λ it. let all : Shared = record { servers = it; slots = map slots_in soft; enrolled = enrolled } in all) servers

-- a soft word that was written
pub slots_are : (health soft : List ℕ) (enrolled group packed firm held : ℕ) → firm_in packed ≡ firm → held_in packed ≡ held
    → shared_in health (set soft group packed) enrolled
    ≡ with_slots (shared_in health soft enrolled) group (record { firm = firm; held = held })
slots_are health soft enrolled group packed firm held firms helds =
    let now : slots_in packed ≡ record { firm = firm; held = held } =
    ap (λ n. let it : Slots = record { firm = n; held = held_in packed } in it) firms
    ∙ ap (λ n. let it : Slots = record { firm = firm; held = n } in it) helds in
    ap (λ it. let all : Shared = record { servers = map server_in health; slots = it; enrolled = enrolled } in all)
    (map-set slots_in soft group packed ∙ ap (set (map slots_in soft) group) now)

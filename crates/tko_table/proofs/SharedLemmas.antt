-- What the words hold once one of them has changed.
use Rattle.std.proofs.Common.{◌≡◌, ℕ, zero, suc, ◌+◌, ◌-◌, ◌%◌, ◌^◌, ◌<◌, ◌≤◌, true, eqb, List, []}
use Rattle.std.proofs.Common.{◌∷◌, map, drop, take, length, get_or, set, get_or-set_other}
use Rattle.std.proofs.Common.{get_or-set_same, refl, sym, ap, ◌∙◌, subst, inl, inr, arith}
use Rattle.std.proofs.lemmas.Bool.{and_from, cases_Bool, eq-eqb, ne_eqb}
use Rattle.std.proofs.lemmas.List.{drop-set-add, drop-set-lt, get_or-drop, get_or-map, get_or-take}
use Rattle.std.proofs.lemmas.List.{length-drop, length-map, map-set, take-set-le}
use Rattle.tko_model.specs.Settings.{Settings}
use Rattle.tko_model.specs.declared.state.ServerState.{ServerState}
use Rattle.tko_model.specs.Tracker.{server_at}
use Rattle.tko_word.specs.Words.{IsWord, firm_in, health_word, held_in, server_in, soft_word}
use Rattle.tko_word.proofs.SoftLemmas.{soft_word_of}
use Rattle.tko_word.proofs.WordLemmas.{server_in_is}
use Rattle.tko_steps.specs.declared.phase.Slots.{Slots}
use Rattle.tko_steps.specs.Core.{slots_at, slots_in}
use Rattle.tko_steps.specs.Table.{same_server, same_slots}
use Rattle.tko_steps.proofs.TableLemmas.{eq-same_server, same_server-true, same_slots-true}
use Rattle.tko_table.specs.Rule.{enrolment_place, health_in, health_place, shared_in, soft_in}
use Rattle.tko_table.specs.Rule.{soft_place}

-- ---- the words by their places

take_set : {X : Type 0} (n : ℕ) (xs : List X) (i : ℕ) (x : X)
    → take n (set xs i x) ≡ set (take n xs) i x
take_set zero xs i x = refl
take_set (suc n) [] i x = refl
take_set (suc n) (one ∷ xs) zero x = refl
take_set (suc n) (one ∷ xs) (suc i) x = ap (λ more. one ∷ more) (take_set n xs i x)

take-length : {X : Type 0} (n : ℕ) (xs : List X) → length (take n xs) ≤ n
take-length zero xs = omega arith
take-length (suc n) [] = omega arith
take-length (suc n) (x ∷ xs) = let less = take-length n xs in omega (arith, less)

take-length_le : {X : Type 0} (n : ℕ) (xs : List X) → length (take n xs) ≤ length xs
take-length_le zero xs = omega arith
take-length_le (suc n) [] = omega arith
take-length_le (suc n) (x ∷ xs) = let less = take-length_le n xs in omega (arith, less)

module _ (s : Settings) (words : List ℕ) where
  pub health-set : (server new : ℕ)
      → health_in s (set words (health_place server) new) ≡ set (health_in s words) server new
  health-set server new =
      let at : 1 + server ≡ health_place server = omega arith in
      let P : ℕ → Type 0 =
      λ it. health_in s (set words it new) ≡ set (health_in s words) server new in
      subst P at (ap (take s.servers) (drop-set-add 1 words server new)
      ∙ take_set s.servers (drop 1 words) server new)

  -- a server whose word is there is one of the servers
  pub server-lt : (server : ℕ) → server < length (health_in s words) → server < s.servers
  server-lt server there = omega (arith, there, take-length s.servers (drop 1 words))

  pub health-get : (server : ℕ) → server < length (health_in s words)
      → get_or words (health_place server) 0 ≡ get_or (health_in s words) server 0
  health-get server there =
      let at : 1 + server ≡ health_place server = omega arith in
      sym (get_or-take s.servers (drop 1 words) server 0 (server-lt server there)
      ∙ get_or-drop 1 words server 0
      ∙ ap (λ it. get_or words it 0) at)

  -- ---- what they hold

  server-lt_servers : (server : ℕ) → server < length (shared_in s words).servers
      → server < length (health_in s words)
  server-lt_servers server inside = omega (arith, inside, length-map (health_in s words) server_in)

  -- one server's word
  pub shared-health : (server new : ℕ) → server < length (shared_in s words).servers
      → shared_in s (set words (health_place server) new)
      ≡ record {
        servers = set (shared_in s words).servers server (server_in new);
        slots = (shared_in s words).slots;
        enrolled = (shared_in s words).enrolled;
      }
  shared-health server new inside =
      let less = server-lt server (server-lt_servers server inside) in
      let servers : map server_in (health_in s (set words (health_place server) new))
      ≡ set (map server_in (health_in s words)) server (server_in new) =
      ap (map server_in) (health-set server new)
      ∙ map-set server_in (health_in s words) server new in
      let soft : soft_in s (set words (health_place server) new) ≡ soft_in s words =
      drop-set-lt (s.servers + 1) words (health_place server) new (omega (arith, less)) in
      let enrolled : get_or (set words (health_place server) new) 0 0 ≡ get_or words 0 0 =
      get_or-set_other words (health_place server) 0 new 0 (λ e. omega (arith, e)) in
      λ i. record { servers = servers i; slots = map slots_in (soft i); enrolled = enrolled i }

  pub server-there : (server : ℕ) → server < length (shared_in s words).servers
      → server_at (shared_in s words).servers server
      ≡ server_in (get_or words (health_place server) 0)
  server-there server inside =
      let there = server-lt_servers server inside in
      get_or-map server_in (health_in s words) server 0 _ there
      ∙ ap server_in (sym (health-get server there))

  -- the soft word of a group
  pub slots-there : (group : ℕ) → group < length (shared_in s words).slots
      → slots_at (shared_in s words).slots group ≡ slots_in (get_or words (soft_place s group) 0)
  slots-there group inside =
      let there : group < length (soft_in s words) =
      omega (arith, inside, length-map (soft_in s words) slots_in) in
      get_or-map slots_in (soft_in s words) group 0 _ there
      ∙ ap slots_in (get_or-drop (s.servers + 1) words group 0)

  pub health-soft : (group new : ℕ)
      → health_in s (set words (soft_place s group) new) ≡ health_in s words
  health-soft group new =
      let at : 1 + (s.servers + group) ≡ soft_place s group = omega arith in
      let P : ℕ → Type 0 = λ it. health_in s (set words it new) ≡ health_in s words in
      subst P at
      (ap (take s.servers) (drop-set-add 1 words (s.servers + group) new)
      ∙ take-set-le s.servers (drop 1 words) (s.servers + group) new (omega arith))

  pub shared-soft : (group new : ℕ)
      → shared_in s (set words (soft_place s group) new)
      ≡ record {
        servers = (shared_in s words).servers;
        slots = set (shared_in s words).slots group
            (slots_in new);
        enrolled = (shared_in s words).enrolled;
      }
  shared-soft group new =
      let servers = health-soft group new in
      let slots : map slots_in (soft_in s (set words (soft_place s group) new))
      ≡ set (map slots_in (soft_in s words)) group (slots_in new) =
      ap (map slots_in) (drop-set-add (s.servers + 1) words group new)
      ∙ map-set slots_in (soft_in s words) group new in
      let enrolled : get_or (set words (soft_place s group) new) 0 0 ≡ get_or words 0 0 =
      get_or-set_other words (soft_place s group) 0 new 0 (λ e. omega (arith, e)) in
      λ i. record { servers = map server_in (servers i); slots = slots i; enrolled = enrolled i }

  -- the enrolment word
  some-word : 0 < length (shared_in s words).servers → 0 < length words
  some-word inside =
      let fewer = take-length_le s.servers (drop 1 words) in
      omega (arith, server-lt_servers 0 inside, fewer, length-drop 1 words)

  pub health-enrolled : (new : ℕ) → health_in s (set words enrolment_place new) ≡ health_in s words
  health-enrolled new = ap (take s.servers) (drop-set-lt 1 words 0 new (omega arith))

  pub shared-enrolled : (new : ℕ) → 0 < length (shared_in s words).servers
      → shared_in s (set words enrolment_place new)
      ≡ record {
        servers = (shared_in s words).servers;
        slots = (shared_in s words).slots;
        enrolled = new;
      }
  shared-enrolled new inside =
      let servers = health-enrolled new in
      let soft : soft_in s (set words 0 new) ≡ soft_in s words =
      drop-set-lt (s.servers + 1) words 0 new (omega arith) in
      let enrolled : get_or (set words 0 new) 0 0 ≡ new =
      get_or-set_same words 0 new 0 (some-word inside) in
      λ i. record {
        servers = map server_in (servers i);
        slots = map slots_in (soft i);
        enrolled = enrolled i;
      }

-- a load leaves its word
pub set-same : (words : List ℕ) (at : ℕ) → set words at (get_or words at 0) ≡ words
set-same [] at = refl
set-same (word ∷ words) zero = refl
set-same (word ∷ words) (suc at) = ap (λ more. word ∷ more) (set-same words at)

-- ---- two words that hold the same are one

server_in-same : (one other : ℕ) → IsWord one → IsWord other → server_in one ≡ server_in other
    → one ≡ other
server_in-same one other is_one is_other same =
    let held = server_in_is one is_one.mark is_one.stamp is_one.allowed is_one.is in
    let held_other = server_in_is other is_other.mark is_other.stamp is_other.allowed is_other.is in
    is_one.is
    ∙ ap (λ (it : ServerState). health_word it.mark it.stamp) (sym held ∙ same ∙ held_other)
    ∙ sym is_other.is

-- an exchange finds its expected word exactly where it finds the expected server
pub word-expected : (word expected : ℕ) (found : ServerState) → IsWord word → IsWord expected
    → server_in expected ≡ found
    → eqb word expected ≡ same_server (server_in word) found
word-expected word expected found is_word is_expected holds =
    elim (cases_Bool (same_server (server_in word) found)) [
      | inl same ↦
          eq-eqb word expected (server_in-same word expected is_word is_expected
          (same_server-true (server_in word) found same ∙ sym holds)) ∙ sym same
      | inr apart ↦
          ne_eqb word expected (λ e. let is : same_server (server_in word) found
          ≡ true = eq-same_server (server_in word) found (ap server_in e ∙ holds) in cc)
          ∙ sym apart
    ]

same_slots-from : (one other : Slots) → one.firm ≡ other.firm → one.held ≡ other.held
    → same_slots one other ≡ true
same_slots-from one other firm held =
    and_from (eqb one.firm other.firm) (eqb one.held other.held) (eq-eqb _ _ firm) (eq-eqb _ _ held)

pub slots-expected : (word expected : ℕ) (slots : Slots) → slots_in expected ≡ slots
    → eqb word expected ≡ same_slots (slots_in word) slots
slots-expected word expected slots holds =
    elim (cases_Bool (same_slots (slots_in word) slots)) [
      | inl same ↦
          let parts = same_slots-true (slots_in word) slots same in
          let firm : firm_in word ≡ firm_in expected =
          parts.0 ∙ ap (λ (it : Slots). it.firm) (sym holds) in
          let held : held_in word ≡ held_in expected =
          parts.1 ∙ ap (λ (it : Slots). it.held) (sym holds) in
          eq-eqb word expected (sym (soft_word_of word) ∙ (λ i. soft_word (firm i) (held i))
          ∙ soft_word_of expected) ∙ sym same
      | inr apart ↦
          ne_eqb word expected (λ e.
          let firm : firm_in word ≡ slots.firm =
          ap firm_in e ∙ ap (λ (it : Slots). it.firm) holds in
          let held : held_in word ≡ slots.held =
          ap held_in e ∙ ap (λ (it : Slots). it.held) holds in
          let is : same_slots (slots_in word) slots ≡ true =
          same_slots-from (slots_in word) slots firm held in cc)
          ∙ sym apart
    ]

-- ---- what the changes of the soft word leave, modulo 2^64

pub settled-is : (word : ℕ) → word < 2 ^ 64 → 0 < held_in word → firm_in word + 1 < 2 ^ 32
    → (firm_in ((word + (2 ^ 64 - 4294967295)) % 2 ^ 64) ≡ firm_in word + 1)
    × (held_in ((word + (2 ^ 64 - 4294967295)) % 2 ^ 64) ≡ held_in word - 1)
unfolding firm_in held_in
settled-is word fits some_slot room = (omega arith, omega arith)

pub loosened-is : (word : ℕ) → word < 2 ^ 64 → 0 < firm_in word → held_in word + 1 < 2 ^ 32
    → (firm_in ((word + 4294967295) % 2 ^ 64) ≡ firm_in word - 1)
    × (held_in ((word + 4294967295) % 2 ^ 64) ≡ held_in word + 1)
unfolding firm_in held_in
loosened-is word fits some_mark room = (omega arith, omega arith)

pub given-is : (word : ℕ) → word < 2 ^ 64 → 0 < held_in word
    → (firm_in ((word + (2 ^ 64 - 4294967296)) % 2 ^ 64) ≡ firm_in word)
    × (held_in ((word + (2 ^ 64 - 4294967296)) % 2 ^ 64) ≡ held_in word - 1)
unfolding firm_in held_in
given-is word fits some_slot = (omega arith, omega arith)

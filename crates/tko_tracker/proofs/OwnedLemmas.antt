-- The bits of the owned servers, one changed at a time.
use Rattle.std.proofs.Common.{◌≡◌, ◌≢◌, ℕ, zero, suc, ◌*◌, ◌/◌, ◌%◌, ◌^◌, ◌<◌, ◌≤◌, Bool, true}
use Rattle.std.proofs.Common.{false, cond, ◌||◌, eqb, List, [], ◌∷◌, length, get_or, set, bit_or}
use Rattle.std.proofs.Common.{bit_and, w64, refl, sym, ap, ◌∙◌, subst, arith, ⊎_elim}
use Rattle.std.proofs.Common.{get_or-set_same, get_or-set_other}
use Rattle.std.proofs.lemmas.Bool.{cases_Bool, cond-false, cond-true, eqb-false, eqb-true, ne_eqb}
use Rattle.std.proofs.lemmas.List.{get_or_past}
use Rattle.std.proofs.lemmas.Nat.Bits.{bit_at-zero, bit_at_clear_other, bit_at_clear_same}
use Rattle.std.proofs.lemmas.Nat.Bits.{bit_at_set_other, bit_at_set_same, shr_and_one}
use Rattle.std.specs.Int.{bit_at, bit_not}
use Rattle.tko_model.specs.declared.mark.Reply.{Reply}
use Rattle.tko_table.specs.Passes.{owns, without}
use Rattle.tko_tracker.specs.Calls.{gives, owned_left, takes}
use Rattle.tko_tracker.specs.Owned.{AreBitsOf, is_set}

-- the bit of this server, in its word, is that of no other server
apart : (server other : ℕ) → (other ≡ server → ⊥) → other / 64 ≡ server / 64
    → other % 64 ≡ server % 64 → ⊥
apart server other differ word bit = differ (omega (arith, word, bit))

-- what one word becomes where one bit of it is put to a value
module _ (words : List ℕ) (server new : ℕ) (value : Bool) (four : length words ≡ 4)
    (inside : server < 256) where
  changed : (bit_at new (server % 64) ≡ cond value 1 0)
      → ((i : ℕ) → i < 64 → i ≢ server % 64
      → bit_at new i ≡ bit_at (get_or words (server / 64) 0) i)
      → (other : ℕ) → is_set (set words (server / 64) new) other
      ≡ cond (eqb other server) value (is_set words other)
  unfolding is_set
  changed same others other =
      let at = server / 64 in
      let within : at < length words = omega (arith, four, inside) in
      ⊎_elim
      (λ (here : eqb other server ≡ true).
      let is : other ≡ server = eqb-true other server here in
      let P : ℕ → Type 0 =
      λ it. eqb (bit_at (get_or (set words at new) (it / 64) 0) (it % 64)) 1 ≡ value in
      let word : get_or (set words at new) at 0 ≡ new = get_or-set_same words at new 0 within in
      let bit : eqb (bit_at (get_or (set words at new) at 0) (server % 64)) 1
      ≡ eqb (cond value 1 0) 1 =
      ap (λ n. eqb n 1) (ap (λ n. bit_at n (server % 64)) word ∙ same) in
      subst P (sym is) (bit ∙ one-bit value)
      ∙ sym (cond-true (eqb other server) value (is_set words other) here))
      (λ (there : eqb other server ≡ false).
      let differ = eqb-false other server there in
      ⊎_elim
      (λ (one : eqb (other / 64) at ≡ true).
      let same_word : other / 64 ≡ at = eqb-true (other / 64) at one in
      let bits = others (other % 64) (omega arith) (λ e. apart server other differ same_word e) in
      let now : get_or (set words at new) (other / 64) 0 ≡ new =
      ap (λ n. get_or (set words at new) n 0) same_word ∙ get_or-set_same words at new 0 within in
      let was : get_or words at 0 ≡ get_or words (other / 64) 0 =
      ap (λ n. get_or words n 0) (sym same_word) in
      ap (λ n. eqb n 1)
      (ap (λ n. bit_at n (other % 64)) now ∙ bits ∙ ap (λ n. bit_at n (other % 64)) was)
      ∙ sym (cond-false (eqb other server) value (is_set words other) there))
      (λ (two : eqb (other / 64) at ≡ false).
      ap (λ n. eqb (bit_at n (other % 64)) 1)
      (get_or-set_other words at (other / 64) new 0 (eqb-false (other / 64) at two))
      ∙ sym (cond-false (eqb other server) value (is_set words other) there))
      (cases_Bool (eqb (other / 64) at)))
      (cases_Bool (eqb other server))
    where
      one-bit : (b : Bool) → eqb (cond b 1 0) 1 ≡ b
      one-bit true = refl
      one-bit false = refl

-- `word | 1 << bit`
pub is_set-insert : (words : List ℕ) (server : ℕ) → length words ≡ 4 → server < 256 → (other : ℕ)
    → is_set (set words (server / 64)
    (bit_or (get_or words (server / 64) 0) (1 * 2 ^ (server % 64) % 2 ^ 64))) other
    ≡ cond (eqb other server) true (is_set words other)
is_set-insert words server four inside =
    let word = get_or words (server / 64) 0 in
    let bit = server % 64 in
    let below : bit < 64 = omega arith in
    changed words server (bit_or word (1 * 2 ^ bit % 2 ^ 64)) true four inside
    (bit_at_set_same w64 word bit below)
    (λ i small differ. bit_at_set_other w64 word bit below i differ)

-- `word & !(1 << bit)`
pub is_set-remove : (words : List ℕ) (server : ℕ) → length words ≡ 4 → server < 256 → (other : ℕ)
    → is_set (set words (server / 64) (bit_and (get_or words (server / 64) 0)
    (bit_not w64 (1 * 2 ^ (server % 64) % 2 ^ 64)))) other
    ≡ cond (eqb other server) false (is_set words other)
is_set-remove words server four inside =
    let word = get_or words (server / 64) 0 in
    let bit = server % 64 in
    let below : bit < 64 = omega arith in
    changed words server (bit_and word (bit_not w64 (1 * 2 ^ bit % 2 ^ 64))) false four inside
    (bit_at_clear_same w64 word bit below)
    (λ i small differ. bit_at_clear_other w64 word bit below i small differ)

-- `(word >> bit) & 1 == 1`
pub is_set-test : (words : List ℕ) (server : ℕ)
    → eqb (bit_and (get_or words (server / 64) 0 / 2 ^ (server % 64)) 1) 1 ≡ is_set words server
unfolding is_set
is_set-test words server =
    ap (λ n. eqb n 1) (shr_and_one (get_or words (server / 64) 0) (server % 64))

-- no server is above the last
pub is_set-past : (words : List ℕ) (server : ℕ) → length words ≡ 4 → 256 ≤ server
    → is_set words server ≡ false
unfolding is_set
is_set-past words server four past =
    let none : get_or words (server / 64) 0 ≡ 0 =
    get_or_past words (server / 64) 0 (omega (arith, four, past)) in
    ap (λ n. eqb (bit_at n (server % 64)) 1) none ∙ ap (λ n. eqb n 1) (bit_at-zero (server % 64))

zeros : (place : ℕ) → ◌≡◌ {A = ℕ} (get_or {A = ℕ} (0 ∷ 0 ∷ 0 ∷ 0 ∷ []) place 0) 0
zeros zero = refl
zeros (suc zero) = refl
zeros (suc (suc zero)) = refl
zeros (suc (suc (suc zero))) = refl
zeros (suc (suc (suc (suc place)))) = refl

pub is_set-none : (server : ℕ) → is_set (0 ∷ 0 ∷ 0 ∷ 0 ∷ []) server ≡ false
unfolding is_set
is_set-none server =
    ap (λ n. eqb (bit_at n (server % 64)) 1) (zeros (server / 64))
    ∙ ap (λ n. eqb n 1) (bit_at-zero (server % 64))

-- ---- bits and lists of owned servers

pub owns-without : (server other : ℕ) (owned : List ℕ)
    → owns (without server owned) other ≡ cond (eqb other server) false (owns owned other)
owns-without server other [] = cond-same (eqb other server)
  where
    cond-same : (b : Bool) → false ≡ cond b false false
    cond-same true = refl
    cond-same false = refl
owns-without server other (own ∷ owned) =
    let rest = owns-without server other owned in
    ⊎_elim
    (λ (is : eqb own server ≡ true).
    ap (λ it. owns it other) (cond-true (eqb own server) (without server owned)
    (own ∷ without server owned) is) ∙ rest
    ∙ dropped (eqb other server) (eqb own other) (owns owned other)
    (λ there. let e : own ≡ server = eqb-true own server is in
    let apart = eqb-false other server there in
    ne_eqb own other (λ (at : own ≡ other). apart (sym at ∙ e))))
    (λ (apart : eqb own server ≡ false).
    ap (λ it. owns it other)
    (cond-false (eqb own server) (without server owned) (own ∷ without server owned) apart)
    ∙ ap (λ it. eqb own other || it) rest
    ∙ stays (eqb other server) (eqb own other) (owns owned other)
    (λ here. let e : other ≡ server = eqb-true other server here in
    let differ = eqb-false own server apart in
    ne_eqb own other (λ (at : own ≡ other). differ (at ∙ e))))
    (cases_Bool (eqb own server))
  where
    dropped : (here same has : Bool) → (here ≡ false → same ≡ false)
        → cond here false has ≡ cond here false (same || has)
    dropped true same has apart = refl
    dropped false same has apart = ap (λ b. b || has) (sym (apart refl))

    stays : (here same has : Bool) → (here ≡ true → same ≡ false)
        → (same || cond here false has) ≡ cond here false (same || has)
    stays true same has apart = ap (λ b. b || false) (apart refl)
    stays false same has apart = refl

eqb-turned : (a b : ℕ) → eqb a b ≡ eqb b a
eqb-turned a b =
    ⊎_elim
    (λ (is : eqb b a ≡ true). let e : b ≡ a = eqb-true b a is in
    subst (λ it. eqb a it ≡ eqb it a) (sym e) refl)
    (λ (apart : eqb b a ≡ false). let differ = eqb-false b a apart in
    ne_eqb a b (λ e. differ (sym e)) ∙ sym apart)
    (cases_Bool (eqb b a))

pub bits-insert : (words new owned : List ℕ) (server : ℕ)
    → ((other : ℕ) → is_set new other ≡ cond (eqb other server) true (is_set words other))
    → AreBitsOf owned words
    → AreBitsOf (server ∷ without server owned) new
bits-insert words new owned server made bits =
    record {
      each = λ other.
          made other ∙ ap (λ b. cond (eqb other server) true b) (bits.each other)
          ∙ inserted (eqb other server) (owns owned other)
          ∙ ap (λ b. b || cond (eqb other server) false (owns owned other))
          (eqb-turned other server)
          ∙ ap (λ b. eqb server other || b) (sym (owns-without server other owned));
    }
  where
    inserted : (here has : Bool) → cond here true has ≡ (here || cond here false has)
    inserted true has = refl
    inserted false has = refl

pub bits-remove : (words new owned : List ℕ) (server : ℕ)
    → ((other : ℕ) → is_set new other ≡ cond (eqb other server) false (is_set words other))
    → AreBitsOf owned words
    → AreBitsOf (without server owned) new
bits-remove words new owned server made bits =
    record {
      each = λ other.
          made other ∙ ap (λ b. cond (eqb other server) false b) (bits.each other)
          ∙ sym (owns-without server other owned);
    }

pub bits-taken : (answer : Reply) (words new : List ℕ) (server : ℕ) → takes answer ≡ true
    → ((other : ℕ) → is_set new other ≡ cond (eqb other server) true (is_set words other))
    → (owned : List ℕ) → AreBitsOf owned words
    → AreBitsOf (owned_left answer server owned) new
bits-taken answer words new server is made owned bits =
    subst (λ it. AreBitsOf it new) (sym (cond-true (takes answer) (server ∷ without server owned)
    (cond (gives answer) (without server owned) owned) is))
    (bits-insert words new owned server made bits)

pub bits-given : (answer : Reply) (words new : List ℕ) (server : ℕ) → takes answer ≡ false
    → gives answer ≡ true
    → ((other : ℕ) → is_set new other ≡ cond (eqb other server) false (is_set words other))
    → (owned : List ℕ) → AreBitsOf owned words
    → AreBitsOf (owned_left answer server owned) new
bits-given answer words new server apart is made owned bits =
    subst (λ it. AreBitsOf it new) (sym (cond-false (takes answer) (server ∷ without server owned)
    (cond (gives answer) (without server owned) owned) apart
    ∙ cond-true (gives answer) (without server owned) owned is))
    (bits-remove words new owned server made bits)

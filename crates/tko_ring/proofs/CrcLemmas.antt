-- Four steps of the division at once: the rest shifted down, and what a table has for the four bits.
use Rattle.std.proofs.Common.{◌∙◌, ◌≡◌, ℕ, zero, suc, ◌+◌, ◌*◌, ◌/◌, ◌%◌, ◌^◌, ◌<◌, List, ◌∷◌, [], ◌&&◌, Bool, true, false, inl, inr, ap, arith, bit_xor, cond, eqb, get_or, refl, subst, sym}
use Rattle.std.specs.Int.Bits.{xor_assoc, xor_self, xor_zero_l, xor_zero_r}
use Rattle.std.proofs.lemmas.Bool.{cases_lt, eqb-true}
use Rattle.std.proofs.lemmas.Nat.{div-add-mod', xor_block, xor_comm, xor_mod, xor_shr}
use Rattle.tko_ring.specs.Crc.{crc_bit}

abbrev polynomial : ℕ
polynomial = 0xedb88320

-- a step by the bit that it takes off
abbrev step_by : ℕ → ℕ → ℕ
step_by bit rest = cond (eqb bit 1) (bit_xor rest polynomial) rest

-- (h ^ p) ^ k is (h ^ k) ^ p
swapped : (h k : ℕ) → bit_xor (bit_xor h k) polynomial ≡ bit_xor (bit_xor h polynomial) k
swapped h k =
    xor_assoc h k polynomial ∙ ap (bit_xor h) (xor_comm k polynomial) ∙ sym (xor_assoc h polynomial k)

twice : (h k : ℕ) → bit_xor h k ≡ bit_xor (bit_xor h polynomial) (bit_xor k polynomial)
twice h k =
    sym (xor_zero_r (bit_xor h k)) ∙ ap (bit_xor (bit_xor h k)) (sym (xor_self polynomial))
    ∙ sym (xor_assoc (bit_xor h k) polynomial polynomial)
    ∙ ap (λ (n : ℕ). bit_xor n polynomial) (swapped h k)
    ∙ xor_assoc (bit_xor h polynomial) k polynomial

step_by-xor : (a b h k : ℕ) → a < 2 → b < 2
    → step_by (bit_xor a b) (bit_xor h k) ≡ bit_xor (step_by a h) (step_by b k)
step_by-xor zero zero h k one other = refl
step_by-xor zero (suc zero) h k one other = xor_assoc h k polynomial
step_by-xor (suc zero) zero h k one other = swapped h k
step_by-xor (suc zero) (suc zero) h k one other = twice h k
step_by-xor (suc (suc a)) b h k one other = absurd (omega arith)
step_by-xor zero (suc (suc b)) h k one other = absurd (omega arith)
step_by-xor (suc zero) (suc (suc b)) h k one other = absurd (omega arith)

-- a step is one of each part
crc_bit-xor : (u v : ℕ) → crc_bit (bit_xor u v) ≡ bit_xor (crc_bit u) (crc_bit v)
crc_bit-xor u v =
    ap (λ (n : ℕ). step_by n (bit_xor u v / 2)) (xor_mod u v 1)
    ∙ ap (step_by (bit_xor (u % 2) (v % 2))) (xor_shr u v 1)
    ∙ step_by-xor (u % 2) (v % 2) (u / 2) (v / 2) (omega arith) (omega arith)

-- a step of an even number
crc_bit-even : (x y : ℕ) → x ≡ 2 * y → crc_bit x ≡ y
crc_bit-even x y is =
    let bit : x % 2 ≡ 0 = omega (arith, is) in
    let rest : x / 2 ≡ y = omega (arith, is) in
    ap (λ (n : ℕ). step_by n (x / 2)) bit ∙ rest

-- four steps
abbrev pub four_steps : ℕ → ℕ
four_steps crc = crc_bit (crc_bit (crc_bit (crc_bit crc)))

four_steps-xor : (u v : ℕ) → four_steps (bit_xor u v) ≡ bit_xor (four_steps u) (four_steps v)
four_steps-xor u v =
    ap (λ (n : ℕ). crc_bit (crc_bit (crc_bit n))) (crc_bit-xor u v)
    ∙ ap (λ (n : ℕ). crc_bit (crc_bit n)) (crc_bit-xor (crc_bit u) (crc_bit v))
    ∙ ap (λ (n : ℕ). crc_bit n) (crc_bit-xor (crc_bit (crc_bit u)) (crc_bit (crc_bit v)))
    ∙ crc_bit-xor (crc_bit (crc_bit (crc_bit u))) (crc_bit (crc_bit (crc_bit v)))

four_steps-high : (h : ℕ) → four_steps (h * 16) ≡ h
four_steps-high h =
    ap (λ (n : ℕ). crc_bit (crc_bit (crc_bit n))) (crc_bit-even (h * 16) (h * 8) (omega arith))
    ∙ ap (λ (n : ℕ). crc_bit (crc_bit n)) (crc_bit-even (h * 8) (h * 4) (omega arith))
    ∙ ap (λ (n : ℕ). crc_bit n) (crc_bit-even (h * 4) (h * 2) (omega arith))
    ∙ crc_bit-even (h * 2) h (omega arith)

parted : (c : ℕ) → c ≡ bit_xor (c / 16 * 16) (c % 16)
parted c =
    let small : c % 16 < 2 ^ 4 = omega arith in
    let block : bit_xor (c / 16 * 16 + 0) (0 + c % 16) ≡ bit_xor (c / 16) 0 * 16 + bit_xor 0 (c % 16) =
    xor_block 4 (c / 16) 0 0 (c % 16) (omega arith) small in
    let high : c / 16 * 16 + 0 ≡ c / 16 * 16 = omega arith in
    let low : 0 + c % 16 ≡ c % 16 = omega arith in
    sym (div-add-mod' c 16)
    ∙ ap (λ (n : ℕ). n * 16 + c % 16) (sym (xor_zero_r (c / 16)))
    ∙ ap (λ (n : ℕ). bit_xor (c / 16) 0 * 16 + n) (sym (xor_zero_l (c % 16)))
    ∙ sym block ∙ ap (λ (n : ℕ). bit_xor n (0 + c % 16)) high ∙ ap (bit_xor (c / 16 * 16)) low

pub four_steps-by_table : (c entry : ℕ) → entry ≡ four_steps (c % 16) → bit_xor (c / 2 ^ 4) entry ≡ four_steps c
four_steps-by_table c entry is =
    ap (bit_xor (c / 16)) is
    ∙ ap (λ (n : ℕ). bit_xor n (four_steps (c % 16))) (sym (four_steps-high (c / 16)))
    ∙ sym (four_steps-xor (c / 16 * 16) (c % 16))
    ∙ ap four_steps (sym (parted c))

-- ---- the table

abbrev pub nibbles : List ℕ
nibbles = 0 ∷ 0x1db71064 ∷ 0x3b6e20c8 ∷ 0x26d930ac ∷ 0x76dc4190 ∷ 0x6b6b51f4 ∷ 0x4db26158 ∷ 0x5005713c ∷ 0xedb88320 ∷ 0xf00f9344 ∷ 0xd6d6a3e8 ∷ 0xcb61b38c ∷ 0x9b64c2b0 ∷ 0x86d3d2d4 ∷ 0xa00ae278 ∷ 0xbdbdf21c ∷ []

-- the first entries are what four steps make of their places
unfoldable are_steps : ℕ → Bool
are_steps zero = true
are_steps (suc n) = eqb (get_or nibbles n 0) (four_steps n) && are_steps n

both : (a b : Bool) → (a && b) ≡ true → (a ≡ true) × (b ≡ true)
both true b is = (refl, is)
both false b is = absurd (cc is)

entry_below : (n low : ℕ) → are_steps n ≡ true → low < n → get_or nibbles low 0 ≡ four_steps low
unfolding are_steps
entry_below zero low all below = absurd (omega arith)
entry_below (suc n) low all below =
    let parts = both (eqb (get_or nibbles n 0) (four_steps n)) (are_steps n) all in
    elim (cases_lt low n) [
      | inl less ↦ entry_below n low parts.1 less
      | inr more ↦
          let same : n ≡ low = omega arith in
          subst (λ (k : ℕ). get_or nibbles k 0 ≡ four_steps k) same (eqb-true _ _ parts.0)
    ]

pub nibble_at : (low : ℕ) → low < 16 → get_or nibbles low 0 ≡ four_steps low
unfolding are_steps
nibble_at low below = entry_below 16 low refl below

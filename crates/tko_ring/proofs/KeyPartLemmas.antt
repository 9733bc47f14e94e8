-- What stands before the first of some bytes, and what follows it.
use Rattle.std.proofs.Common.{◌∙◌, ◌≡◌, ℕ, zero, suc, ◌+◌, ◌<◌, List, [], ◌∷◌, length, take, drop, Some, None, ap, arith, refl, inl, inr, option_map, add-one, sym, eqb}
use Rattle.std.proofs.lemmas.Bool.{cases_Bool, cond-true, cond-false}
use Rattle.memchr.specs.Find.{Nowhere, Passes, is_byte}
use Rattle.tko_ring.specs.KeyParts.{after_byte, before_byte}

-- a byte that does not pass, at the front of a text
later : (byte x : ℕ) (rest : List ℕ) (n : ℕ) → Nowhere (Passes (is_byte byte) (x ∷ rest)) 0 (suc n)
    → Nowhere (Passes (is_byte byte) rest) 0 n
later byte x rest n none k low high = none (suc k) (omega arith) (omega arith)

pub before_byte-none : (byte : ℕ) (xs : List ℕ) → Nowhere (Passes (is_byte byte) xs) 0 (length xs)
    → before_byte byte xs ≡ None
before_byte-none byte [] none = refl
before_byte-none byte (x ∷ rest) none =
    elim (cases_Bool (eqb x byte)) [
      | inl e ↦ absurd (none 0 (omega arith) (omega arith) e)
      | inr e ↦ cond-false _ _ _ e
          ∙ ap (λ text. option_map (λ bytes. x ∷ bytes) text) (before_byte-none byte rest (later byte x rest (length rest) none))
    ]

pub after_byte-none : (byte : ℕ) (xs : List ℕ) → Nowhere (Passes (is_byte byte) xs) 0 (length xs)
    → after_byte byte xs ≡ None
after_byte-none byte [] none = refl
after_byte-none byte (x ∷ rest) none =
    elim (cases_Bool (eqb x byte)) [
      | inl e ↦ absurd (none 0 (omega arith) (omega arith) e)
      | inr e ↦ cond-false _ _ _ e ∙ after_byte-none byte rest (later byte x rest (length rest) none)
    ]

pub before_byte-at : (byte : ℕ) (xs : List ℕ) (k : ℕ) → Nowhere (Passes (is_byte byte) xs) 0 k
    → k < length xs → Passes (is_byte byte) xs k → before_byte byte xs ≡ Some (take k xs)
before_byte-at byte [] k none within is = absurd (omega arith)
before_byte-at byte (x ∷ rest) zero none within is = cond-true _ _ _ is
before_byte-at byte (x ∷ rest) (suc k) none within is =
    elim (cases_Bool (eqb x byte)) [
      | inl e ↦ absurd (none 0 (omega arith) (omega arith) e)
      | inr e ↦ cond-false _ _ _ e
          ∙ ap (λ text. option_map (λ bytes. x ∷ bytes) text) (before_byte-at byte rest k (later byte x rest k none) (omega arith) is)
    ]

pub after_byte-at : (byte : ℕ) (xs : List ℕ) (k : ℕ) → Nowhere (Passes (is_byte byte) xs) 0 k
    → k < length xs → Passes (is_byte byte) xs k → after_byte byte xs ≡ Some (drop (k + 1) xs)
after_byte-at byte [] k none within is = absurd (omega arith)
after_byte-at byte (x ∷ rest) zero none within is = cond-true _ _ _ is
after_byte-at byte (x ∷ rest) (suc k) none within is =
    elim (cases_Bool (eqb x byte)) [
      | inl e ↦ absurd (none 0 (omega arith) (omega arith) e)
      | inr e ↦ cond-false _ _ _ e
          ∙ after_byte-at byte rest k (later byte x rest k none) (omega arith) is
          ∙ ap (λ n. Some (drop n rest)) (add-one k)
          ∙ ap (λ n. Some (drop n (x ∷ rest))) (sym (add-one (suc k)))
    ]

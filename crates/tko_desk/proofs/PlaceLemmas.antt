-- What holds of each number below a bound.
use Rattle.std.proofs.Common.{◌≡◌, ℕ, ◌+◌, ◌<◌, inl, inr, subst, arith}
use Rattle.std.proofs.lemmas.Bool.{cases_lt}

pub all_below_next : (P : ℕ → Type 0) (n : ℕ) → ((p : ℕ) → p < n → P p) → P n → (p : ℕ) → p < n + 1 → P p
all_below_next P n before last p below = elim (cases_lt p n) [ inl less ↦ before p less | inr more ↦ (let same : n ≡ p = omega arith in subst P same last) ]

-- How many keys from the first one on got lists of values.
use Rattle.std.proofs.Common.{◌≡◌, ◌<◌, ◌≤◌, ◌+◌, ℕ, Bool, true, false, List, length, nat_lt, sym}
use Rattle.std.proofs.Common.{ap, ◌∙◌, arith, inl, inr, true≢false}
use Rattle.std.specs.Prelude.{slice_index_or}
use Rattle.std.specs.List.{prefix_len}
use Rattle.std.proofs.lemmas.Bool.Decides.{eqb_tells}
use Rattle.std.proofs.lemmas.Bool.{cases_Bool, ltb-false, ltb-true}
use Rattle.std.proofs.lemmas.List.Sums.{prefix_len-le-length, prefix_len_passes, prefix_len_stops}

module _ {X : Type 0} (p : X → Bool) (xs : List X) where
  -- an element that passes after those before it
  pub ahead_more : (n : ℕ) (d : X) → n ≤ prefix_len p xs → n < length xs
      → p (slice_index_or xs n d) ≡ true → n + 1 ≤ prefix_len p xs
  ahead_more n d so_far within passes = elim (eqb_tells n (prefix_len p xs)) [
    | inl same ↦
        let stops : p (slice_index_or xs (prefix_len p xs) d) ≡ false =
        prefix_len_stops p xs d (omega (arith, same.1, within)) in
        absurd (true≢false (sym passes ∙ ap (λ k. p (slice_index_or xs k d)) same.1 ∙ stops))
    | inr other ↦ omega (arith, so_far, other.1)
  ]

  -- the first that does not pass
  pub ahead_stops : (n : ℕ) (d : X) → n ≤ prefix_len p xs → p (slice_index_or xs n d) ≡ false
      → n ≡ prefix_len p xs
  ahead_stops n d so_far fails = elim (eqb_tells n (prefix_len p xs)) [
    | inl same ↦ same.1
    | inr other ↦
        absurd (true≢false (sym (prefix_len_passes p xs n d (omega (arith, so_far, other.1)))
        ∙ fails))
  ]

  -- the first so many pass
  pub ahead_at_least : (n : ℕ) (d : X) → n ≤ length xs
      → ((k : ℕ) → k < n → p (slice_index_or xs k d) ≡ true) → n ≤ prefix_len p xs
  ahead_at_least n d within all = elim (cases_Bool (nat_lt (prefix_len p xs) n)) [
    | inl less ↦
        let below : prefix_len p xs < n = ltb-true (prefix_len p xs) n less in
        absurd (true≢false (sym (all (prefix_len p xs) below)
        ∙ prefix_len_stops p xs d (omega (arith, below, within))))
    | inr more ↦ ltb-false (prefix_len p xs) n more
  ]

  -- all of them pass
  pub ahead_all : length xs ≤ prefix_len p xs → length xs ≡ prefix_len p xs
  ahead_all so_far = omega (arith, so_far, prefix_len-le-length p xs)

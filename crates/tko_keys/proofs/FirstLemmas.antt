-- The first item of a list that passes a test.
use Rattle.std.proofs.Common.{◌≡◌, ◌<◌, ◌+◌, ℕ, zero, suc, Bool, true, false, not, List, [], ◌∷◌}
use Rattle.std.proofs.Common.{◌++◌, cond, length, Option, Some, None, refl, sym, ap, subst, ◌∙◌}
use Rattle.std.proofs.Common.{arith, true≢false}
use Rattle.std.specs.Prelude.{IsSome, drop, find, position, remove, slice_get, slice_index_or, take}
use Rattle.std.specs.List.{position_or_len}
use Rattle.std.specs.Option.{is_some}
use Rattle.std.proofs.lemmas.Bool.{lt-ltb, ltb-true}
use Rattle.std.proofs.lemmas.List.Folds.{find_at}
use Rattle.std.proofs.lemmas.Option.{cond_some, none-some, same_Some, slice_get-get_or}
use Rattle.std.proofs.lemmas.Option.{slice_get_read, slice_get_within}

pub split_at : {X : Type 0} (xs : List X) (i : ℕ) (x : X) → slice_get xs i ≡ Some x
    → xs ≡ take i xs ++ x ∷ drop (suc i) xs
split_at [] i x at = absurd (none-some x at)
split_at (y ∷ xs) zero x at = ap (λ z. z ∷ xs) (same_Some y x at)
split_at (y ∷ xs) (suc i) x at = ap (λ zs. y ∷ zs) (split_at xs i x at)

pub some_of : {X : Type 0} (o : Option X) → IsSome o → (x : X) × (o ≡ Some x)
some_of None some = absurd (let none : ⊥ = cc some in none)
some_of (Some x) some = (x, refl)

within_some : {X : Type 0} {n : ℕ} (xs : List X) → n < length xs → IsSome (slice_get xs n)
within_some {n = n} [] within = absurd (omega (arith, within))
within_some {n = n} (x ∷ xs) within =
    subst IsSome (sym (slice_get-get_or (x ∷ xs) n x within)) refl

-- it stands between those before, none of which passes, and those after
pub record IsFirst {X : Type 0} (test : X → Bool) (xs : List X) (x : X) : Type 0 where
  pub before : List X
  pub after : List X
  pub are : xs ≡ before ++ x ∷ after
  pub none : find test before ≡ None
  pub meets : test x ≡ true

module _ {X : Type 0} (test : X → Bool) where
  first_apart : (x : X) (xs : List X) (b : Bool) → test x ≡ b
      → find test (take (position_or_len test xs) xs) ≡ None
      → find test (take (position_or_len test (x ∷ xs)) (x ∷ xs)) ≡ None
  first_apart x xs true is none =
      ap (λ b. find test (take (cond (not b) (1 + position_or_len test xs) 0) (x ∷ xs))) is
  first_apart x xs false is none =
      let more : 1 + position_or_len test xs ≡ suc (position_or_len test xs) = omega arith in
      ap (λ b. find test (take (cond (not b) (1 + position_or_len test xs) 0) (x ∷ xs))) is
      ∙ ap (λ n. find test (take n (x ∷ xs))) more
      ∙ ap (λ b. cond b (Some x) (find test (take (position_or_len test xs) xs))) is ∙ none

  -- none passes before it
  none_before : (xs : List X) → find test (take (position_or_len test xs) xs) ≡ None
  none_before [] = refl
  none_before (x ∷ xs) = first_apart x xs (test x) refl (none_before xs)

  meets_by : (x found : X) (xs : List X) (b : Bool) → test x ≡ b
      → (find test xs ≡ Some found → test found ≡ true)
      → find test (x ∷ xs) ≡ Some found → test found ≡ true
  meets_by x found xs true is rest at =
      let same : x ≡ found =
      same_Some x found (sym (ap (λ b. cond b (Some x) (find test xs)) is) ∙ at) in
      subst (λ y. test y ≡ true) same is
  meets_by x found xs false is rest at =
      rest (sym (ap (λ b. cond b (Some x) (find test xs)) is) ∙ at)

  pub found_meets : (xs : List X) (found : X) → find test xs ≡ Some found → test found ≡ true
  found_meets [] found at = absurd (none-some found at)
  found_meets (x ∷ xs) found at =
      meets_by x found xs (test x) refl (found_meets xs found) at

  first_place : {index : ℕ} (xs : List X) → position test xs ≡ Some index
      → (position_or_len test xs ≡ index) × (index < length xs)
  first_place {index} xs at =
      let found = cond_some _ (position_or_len test xs) index at in
      (found.1, subst (λ n. n < length xs) found.1 (ltb-true _ _ found.0))

  -- the first, as it is read at its place
  pub first_read : {index : ℕ} (xs : List X) (x : X) → position test xs ≡ Some index
      → x ≡ slice_index_or xs index x → (find test xs ≡ Some x) × (slice_get xs index ≡ Some x)
  first_read {index} xs x at read =
      let place = first_place xs at in
      let there = slice_get_read xs (length xs) index x refl place.1 read in
      (find_at test xs ∙ ap (slice_get xs) place.0 ∙ there, there)

  -- the first, and the others, where it is taken from its place
  pub first_taken : {index : ℕ} (xs : List X) (x : X) → position test xs ≡ Some index
      → x ≡ slice_index_or xs index x
      → (first : IsFirst test xs x) × (remove xs index ≡ first.before ++ first.after)
  first_taken {index} xs x at read =
      let is = first_read xs x at read in (
        record {
          before = take index xs;
          after = drop (suc index) xs;
          are = split_at xs index x is.1;
          none = subst (λ n. find test (take n xs) ≡ None) (first_place xs at).0 (none_before xs);
          meets = found_meets xs x is.0;
        },
        refl,
      )

  -- one that is found is the first
  pub first_found : (xs : List X) (x : X) → find test xs ≡ Some x → IsFirst test xs x
  first_found xs x found = record {
    before = take (position_or_len test xs) xs;
    after = drop (suc (position_or_len test xs)) xs;
    are = split_at xs (position_or_len test xs) x (sym (find_at test xs) ∙ found);
    none = none_before xs;
    meets = found_meets xs x found;
  }

  -- one that passes is found
  passes_by : (x : X) (xs : List X) (b : Bool) → test x ≡ b
      → (b ≡ false → IsSome (find test xs)) → IsSome (find test (x ∷ xs))
  passes_by x xs true is rest =
      subst IsSome (sym (ap (λ b. cond b (Some x) (find test xs)) is)) refl
  passes_by x xs false is rest =
      subst IsSome (sym (ap (λ b. cond b (Some x) (find test xs)) is)) (rest refl)

  pub passing_found : (xs : List X) (i : ℕ) (x : X) → slice_get xs i ≡ Some x → test x ≡ true
      → IsSome (find test xs)
  passing_found [] i x at meets = absurd (none-some x at)
  passing_found (y ∷ xs) zero x at meets =
      passes_by y xs (test y) refl
      (λ apart. absurd (true≢false (sym meets ∙ ap test (sym (same_Some y x at)) ∙ apart)))
  passing_found (y ∷ xs) (suc i) x at meets =
      passes_by y xs (test y) refl (λ apart. passing_found xs i x at meets)

  -- a place is found where one is
  pub place_found : (xs : List X) → IsSome (find test xs)
      → position test xs ≡ Some (position_or_len test xs)
  place_found xs some =
      let it = some_of (find test xs) some in
      let within = slice_get_within xs (position_or_len test xs) it.0
      (sym (find_at test xs) ∙ it.1) in
      ap (λ b. cond b (Some (position_or_len test xs)) None) (lt-ltb _ _ within)

  pub never_none : (xs : List X) → IsSome (find test xs) → position test xs ≡ None → ⊥
  never_none xs some none =
      none-some (position_or_len test xs) (sym none ∙ place_found xs some)

  none_of : (xs : List X) (found : Option X) → find test xs ≡ found → position test xs ≡ None
      → find test xs ≡ None
  none_of xs None is none = is
  none_of xs (Some x) is none = absurd (never_none xs (subst IsSome (sym is) refl) none)

  -- none is found where no place is
  pub none_found : (xs : List X) → position test xs ≡ None → find test xs ≡ None
  none_found xs none = none_of xs (find test xs) refl none

  some_place : (xs : List X) (found : Option ℕ) → position test xs ≡ found
      → is_some found ≡ true → IsSome (find test xs)
  some_place xs None at some = absurd (let none : ⊥ = cc some in none)
  some_place xs (Some index) at some =
      let found = cond_some _ (position_or_len test xs) index at in
      subst IsSome (sym (find_at test xs)) (within_some xs (ltb-true _ _ found.0))

  -- whether a place is found
  pub both_found : (xs : List X) (b : Bool) → b ≡ is_some (position test xs)
      → (b ≡ true → IsSome (find test xs)) × (IsSome (find test xs) → b ≡ true)
  both_found xs b is = (
    λ yes_it. some_place xs (position test xs) refl (sym is ∙ yes_it),
    λ some. is ∙ ap is_some (place_found xs some),
  )

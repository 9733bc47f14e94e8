-- Addresses that have numbers.
use Rattle.std.proofs.Common.{◌≡◌, ◌<◌, ℕ, suc, ◌+◌, Bool, true, false, cond, List, [], ◌∷◌, ◌++◌, length, map, refl, subst, arith, inl, inr}
use Rattle.std.specs.Prelude.{Some, None, is_some, not}
use Rattle.std.specs.List.{All, flat_map, fold, position, position_or_len}
use Rattle.std.specs.Str.{bytes_eq}
use Rattle.std.proofs.lemmas.Bool.{cases_Bool, cases_lt, le-ltb, lt-ltb}
use Rattle.std.proofs.lemmas.List.Elements.{All-nil, All-cons, All-head, All-tail}
use Rattle.std.proofs.lemmas.Slice.Eq.{bytes_eq-Decides}
use Rattle.std.proofs.Math.Nat.{zero-lt-suc}
use Rattle.tko_pools.specs.Numbering.{number_in, with_address}

-- the text is one of the addresses
abbrev pub IsKnown : List (List ℕ) → List ℕ → Type 0
IsKnown addresses text = position_or_len (bytes_eq text) addresses < length addresses

-- an address that is there has a number below how many there are
pub known-number : (addresses : List (List ℕ)) (text : List ℕ) → IsKnown addresses text
    → number_in addresses text < length addresses
known-number addresses text known =
    let test = lt-ltb (position_or_len (bytes_eq text) addresses) (length addresses) known in
    rw test known

-- one that is known stays known behind a further address
known-push : (p : List ℕ → Bool) (addresses : List (List ℕ)) (other : List ℕ)
    → position_or_len p addresses < length addresses
    → position_or_len p (addresses ++ other ∷ []) < length (addresses ++ other ∷ [])
known-push p [] other known = absurd (omega (arith, known))
known-push p (first ∷ addresses) other known =
    elim (cases_Bool (p first)) [
      | inl found ↦ rw found (zero-lt-suc (length (addresses ++ other ∷ [])))
      | inr none ↦
          let P : Bool → Type 0 = λ b. cond (not b) (1 + position_or_len p addresses) 0 < suc (length addresses) in
          let inside : 1 + position_or_len p addresses < suc (length addresses) = subst P none known in
          let later = known-push p addresses other (omega (arith, inside)) in
          rw none (omega (arith, later))
    ]

-- the last address is known
pub last-known : (p : List ℕ → Bool) (addresses : List (List ℕ)) (text : List ℕ) → p text ≡ true
    → position_or_len p (addresses ++ text ∷ []) < length (addresses ++ text ∷ [])
last-known p [] text same = rw same (zero-lt-suc 0)
last-known p (first ∷ addresses) text same =
    elim (cases_Bool (p first)) [
      | inl found ↦ rw found (zero-lt-suc (length (addresses ++ text ∷ [])))
      | inr none ↦ let later = last-known p addresses text same in rw none (omega (arith, later))
    ]

is_known : (addresses : List (List ℕ)) (text : List ℕ) → is_some (position (bytes_eq text) addresses) ≡ true
    → IsKnown addresses text
is_known addresses text found =
    elim (cases_lt (position_or_len (bytes_eq text) addresses) (length addresses)) [
      | inl low ↦ low
      | inr high ↦
          let test = le-ltb (position_or_len (bytes_eq text) addresses) (length addresses) high in
          let P : Bool → Type 0 = λ b. is_some (cond b (Some (position_or_len (bytes_eq text) addresses)) None) ≡ true in
          let never : false ≡ true = subst P test found in
          cc
    ]

pub added-known : (addresses : List (List ℕ)) (text : List ℕ) → IsKnown (with_address addresses text) text
added-known addresses text =
    elim (cases_Bool (is_some (position (bytes_eq text) addresses))) [
      | inl found ↦ rw found (is_known addresses text found)
      | inr none ↦ rw none (last-known (bytes_eq text) addresses text ((bytes_eq-Decides text text).1 refl))
    ]

pub stays-known : (addresses : List (List ℕ)) (other text : List ℕ) → IsKnown addresses text
    → IsKnown (with_address addresses other) text
stays-known addresses other text known =
    elim (cases_Bool (is_some (position (bytes_eq other) addresses))) [
      | inl found ↦ rw found known
      | inr none ↦ rw none (known-push (bytes_eq text) addresses other known)
    ]

all-stay-known : (texts addresses : List (List ℕ)) (text : List ℕ) → IsKnown addresses text
    → IsKnown (fold with_address addresses texts) text
all-stay-known [] addresses text known = known
all-stay-known (other ∷ texts) addresses text known =
    all-stay-known texts (with_address addresses other) text (stays-known addresses other text known)

pub all-known : (texts addresses : List (List ℕ)) → All (IsKnown (fold with_address addresses texts)) texts
all-known [] addresses = All-nil (IsKnown addresses)
all-known (text ∷ texts) addresses =
    let next = with_address addresses text in
    All-cons
    (IsKnown (fold with_address next texts))
    text
    texts
    (all-stay-known texts next text (added-known addresses text))
    (all-known texts next)

-- What holds of all elements of a concatenation holds of all elements of each of its lists.

all-front : {A : Type 0} (P : A → Type 0) (xs ys : List A) → All P (xs ++ ys) → All P xs
all-front P [] ys h = All-nil P
all-front P (x ∷ xs) ys h =
    All-cons P x xs (All-head P x (xs ++ ys) h) (all-front P xs ys (All-tail P x (xs ++ ys) h))

all-back : {A : Type 0} (P : A → Type 0) (xs ys : List A) → All P (xs ++ ys) → All P ys
all-back P [] ys h = h
all-back P (x ∷ xs) ys h = all-back P xs ys (All-tail P x (xs ++ ys) h)

pub all-flat : {X A : Type 0} (P : A → Type 0) (f : X → List A) (xs : List X) → All P (flat_map f xs)
    → All (λ x. All P (f x)) xs
all-flat P f [] h = All-nil (λ x. All P (f x))
all-flat P f (x ∷ xs) h =
    All-cons
    (λ y. All P (f y))
    x
    xs
    (all-front P (f x) (flat_map f xs) h)
    (all-flat P f xs (all-back P (f x) (flat_map f xs) h))

pub all-unmap : {A B : Type 0} (P : B → Type 0) (f : A → B) (xs : List A) → All P (map f xs)
    → All (λ x. P (f x)) xs
all-unmap P f [] h = All-nil (λ x. P (f x))
all-unmap P f (x ∷ xs) h =
    All-cons
    (λ y. P (f y))
    x
    xs
    (All-head P (f x) (map f xs) h)
    (all-unmap P f xs (All-tail P (f x) (map f xs) h))

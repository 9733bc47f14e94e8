-- Numbers of clients, in order.
use Rattle.std.proofs.Common.{arith, ◌≡◌, ◌≢◌, ◌+◌, ◌≤◌, ◌<◌, ◌⊎◌, ℕ, Bool, true, false, List, []}
use Rattle.std.proofs.Common.{◌∷◌, ◌++◌, refl, sym, ap, subst, ◌∙◌, inl, inr, length, length-append}
use Rattle.std.specs.Prelude.{slice_get, slice_set, unwrap_or, Option, Some, None}
use Rattle.std.proofs.lemmas.Bool.{cases_eq, cases_lt}
use Rattle.std.proofs.lemmas.List.{get_or_append_left}
use Rattle.std.proofs.lemmas.Option.{slice_get_past, unwrap_or-slice_get}
use Rattle.tko_roster.proofs.SlotLemmas.{get_set_other, get_set_same}
use Rattle.tko_worker.specs.Numbers.{AreFlagged, IsAmong, IsIn, is_flagged}

in_last : (number : ℕ) (numbers : List ℕ) → IsIn number (numbers ++ number ∷ [])
in_last number [] = inl refl
in_last number (it ∷ others) = inr (in_last number others)

in_more : (number it : ℕ) (numbers : List ℕ) → IsIn number numbers → IsIn number (numbers ++ it ∷ [])
in_more number it [] is = absurd is
in_more number it (one ∷ others) (inl same) = inl same
in_more number it (one ∷ others) (inr is) = inr (in_more number it others is)

-- a number that was put among others is among them, and so are those
pub among_it : (number : ℕ) (old new : List ℕ) → IsAmong number old new → IsIn number new
among_it number old new (inl put) = subst (IsIn number) (sym put) (in_last number old)
among_it number old new (inr was) = subst (IsIn number) (sym was.1) was.0

pub in_among : (number other : ℕ) (old new : List ℕ) → IsAmong number old new → IsIn other old
    → IsIn other new
in_among number other old new (inl put) is =
    subst (IsIn other) (sym put) (in_more other number old is)
in_among number other old new (inr was) is = subst (IsIn other) (sym was.1) is

-- a number with a flag is another than the one that was taken, so it is among those that are left
pub flags_left : (flags now : List Bool) (number : ℕ) (numbers : List ℕ)
    → AreFlagged flags (number ∷ numbers)
    → ((other : ℕ) → is_flagged now other ≡ true
    → (other ≢ number) × (is_flagged flags other ≡ true))
    → AreFlagged now numbers
flags_left flags now number numbers are cleared other set =
    let it = cleared other set in
    elim (are other it.1) [
      | inl me ↦ absurd (it.0 (sym me))
      | inr is ↦ is
    ]

-- one more number, which may have a flag now
pub flags_more : (flags now : List Bool) (number : ℕ) (numbers : List ℕ)
    → AreFlagged flags numbers
    → ((other : ℕ) → is_flagged now other ≡ true
    → (other ≡ number) ⊎ (is_flagged flags other ≡ true))
    → AreFlagged now (numbers ++ number ∷ [])
flags_more flags now number numbers are set other is =
    elim (set other is) [
      | inl me ↦ subst (λ n. IsIn n (numbers ++ number ∷ [])) (sym me) (in_last number numbers)
      | inr was ↦ in_more other number numbers (are other was)
    ]

past_has_none : (flags : List Bool) (other : ℕ) → length flags ≤ other
    → is_flagged flags other ≡ true → ⊥
past_has_none flags other past is =
    let none = ap (λ it. unwrap_or it false) (slice_get_past flags other past) in
    let both : false ≡ true = sym none ∙ is in let f : ⊥ = cc both in f

-- where a flag is set, that number has one, and all others as before
pub flag_is_set : (flags : List Bool) (number other : ℕ)
    → is_flagged (slice_set flags number true) other ≡ true
    → (other ≡ number) ⊎ (is_flagged flags other ≡ true)
flag_is_set flags number other is = elim (cases_eq other number) [
  | inl me ↦ inl me
  | inr apart ↦
      inr (ap (λ it. unwrap_or it false) (sym (get_set_other flags number other true apart)) ∙ is)
]

-- where one is cleared, that number has none
pub flag_is_cleared : (flags : List Bool) (number other : ℕ) → number < length flags
    → is_flagged (slice_set flags number false) other ≡ true
    → (other ≢ number) × (is_flagged flags other ≡ true)
flag_is_cleared flags number other below is = elim (cases_eq other number) [
  | inl me ↦ (
      let here : is_flagged (slice_set flags number false) number ≡ true =
      subst (λ n. is_flagged (slice_set flags number false) n ≡ true) me is in
      let none = ap (λ it. unwrap_or it false) (get_set_same flags number false below) in
      let both : false ≡ true = sym none ∙ here in let f : ⊥ = cc both in absurd f)
  | inr apart ↦ (
    apart,
    ap (λ it. unwrap_or it false) (sym (get_set_other flags number other false apart)) ∙ is,
  )
]

-- a number without a flag has none
pub unset_stays : (flags : List Bool) (number other : ℕ) → length flags ≤ number
    → is_flagged flags other ≡ true → (other ≢ number) × (is_flagged flags other ≡ true)
unset_stays flags number other past is =
    ((λ me. past_has_none flags other (subst (λ n. length flags ≤ n) (sym me) past) is), is)

-- the next number gets a flag
pub flag_is_pushed : (flags : List Bool) (number other : ℕ) → number ≡ length flags
    → is_flagged (flags ++ true ∷ []) other ≡ true
    → (other ≡ number) ⊎ (is_flagged flags other ≡ true)
flag_is_pushed flags number other next is = elim (cases_lt other (length flags)) [
  | inl less ↦
      inr (unwrap_or-slice_get flags other false
      ∙ sym (get_or_append_left flags (true ∷ []) false other less)
      ∙ sym (unwrap_or-slice_get (flags ++ true ∷ []) other false) ∙ is)
  | inr most ↦ elim (cases_eq other number) [
    | inl me ↦ inl me
    | inr apart ↦ (
        let len : length (flags ++ true ∷ []) ≡ length flags + 1 =
        length-append flags (true ∷ []) in
        let past : length (flags ++ true ∷ []) ≤ other = omega (arith, len, most, next, apart) in
        absurd (past_has_none (flags ++ true ∷ []) other past is))
  ]
]

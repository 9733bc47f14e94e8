-- Those that were put off are taken in their order.
use Rattle.std.proofs.Common.{Option, arith, ◌≡◌, ◌+◌, ◌≤◌, ◌<◌, ◌⊎◌, ℕ, List, [], ◌∷◌, ◌++◌, refl, sym, ap}
use Rattle.std.proofs.Common.{subst, ◌∙◌, inl, inr, length, length-append}
use Rattle.std.specs.Prelude.{min}
use Rattle.std.proofs.Math.Nat.{min-eq_left, min-eq_right, min-le_left}
use Rattle.std.proofs.lemmas.Bool.{cases_lt}
use Rattle.std.proofs.lemmas.List.{append-nil, append_assoc}
use Rattle.tko_text.specs.declared.request.Request.{Request}
use Rattle.tko_mux.specs.Muxes.{MuxState}
use Rattle.tko_port.specs.declared.guest.Guest.{Guest}
use Rattle.tko_port.specs.declared.guest.SharedParts.{SharedParts}
use Rattle.tko_worker.specs.Numbers.{IsAmong, IsTurnTaken, put_off_served}
use Rattle.tko_worker.specs.Workers.{IsNumberServed, Sight}

-- none was taken yet
pub none_taken_yet : (numbers : List ℕ) → IsTurnTaken 0 numbers numbers
none_taken_yet numbers = record {
  first = [];
  rest = numbers;
  more = [];
  was = refl;
  is = sym (append-nil numbers);
  few = omega arith;
  all = λ less. absurd (omega (arith, less));
}

-- one more was put off, or is among those
more_off : (most number : ℕ) (old mid new : List ℕ) → IsTurnTaken most old mid
    → IsAmong number mid new → IsTurnTaken most old new
more_off most number old mid new it (inl put) = record {
  first = it.first;
  rest = it.rest;
  more = it.more ++ number ∷ [];
  was = it.was;
  is = put ∙ ap (λ numbers. numbers ++ number ∷ []) it.is
      ∙ append_assoc it.rest it.more (number ∷ []);
  few = it.few;
  all = it.all;
}
more_off most number old mid new it (inr was) = subst (IsTurnTaken most old) (sym was.1) it

pub served_off : {L T P : Type 0} (sight : Sight L T) (asks_for : Guest L T → Option Request)
    (was now : MuxState (Guest L T) (SharedParts P)) (most number due : ℕ) (old mid new : List ℕ)
    → IsTurnTaken most old mid → IsNumberServed sight asks_for was number due now mid new
    → IsTurnTaken most old new
served_off sight asks_for was now most number due old mid new it (inl rests) =
    subst (IsTurnTaken most old) (sym rests.1) it
served_off sight asks_for was now most number due old mid new it (inr served) =
    more_off most number old mid new it served.1

-- the first that is left was taken
next_in : (count number : ℕ) (old mid after first rest more : List ℕ) → old ≡ first ++ rest
    → rest ++ more ≡ number ∷ after → length first ≡ count → count < length old
    → IsTurnTaken (count + 1) old after
next_in count number old mid after first [] more was is len below =
    absurd (let all = ap length was ∙ length-append first [] in omega (arith, all, len, below))
next_in count number old mid after first (it ∷ rest) more was is len below =
    let later : rest ++ more ≡ after = cc is in record {
      first = first ++ it ∷ [];
      rest = rest;
      more = more;
      was = was ∙ sym (append_assoc first (it ∷ []) rest);
      is = sym later;
      few = (let longer = length-append first (it ∷ []) in omega (arith, longer, len));
      all = λ less. absurd (let longer = length-append first (it ∷ []) in
          omega (arith, longer, len, less));
    }

-- as many as were taken, where more are left
pub are_taken : (count : ℕ) (old mid : List ℕ) (it : IsTurnTaken count old mid)
    → count ≤ length old → length it.first ≡ count
are_taken count old mid it below = elim (cases_lt (length it.first) count) [
  | inl less ↦ (
      let none = it.all less in
      let all = ap length it.was ∙ length-append it.first it.rest in
      let empty = ap length none in absurd (omega (arith, all, empty, less, below)))
  | inr most ↦ omega (arith, most, it.few)
]

pub next_taken : (count number : ℕ) (old mid after : List ℕ) → IsTurnTaken count old mid
    → mid ≡ number ∷ after → count < length old → IsTurnTaken (count + 1) old after
next_taken count number old mid after it is below =
    next_in count number old mid after it.first it.rest it.more it.was (sym it.is ∙ is)
    (are_taken count old mid it (omega (arith, below))) below

-- one is left where fewer were taken than there were
pub one_is_left : (count : ℕ) (old mid : List ℕ) → IsTurnTaken count old mid → count < length old
    → mid ≡ [] → ⊥
one_is_left count old mid it below none =
    let len = are_taken count old mid it (omega (arith, below)) in
    let all = ap length it.was ∙ length-append it.first it.rest in
    let left = ap length (sym it.is ∙ none) in
    let parts = length-append it.rest it.more in omega (arith, len, all, left, parts, below)

-- the first ones of a list that has more behind them are those of the list
record IsSplit (old more first rest : List ℕ) : Type 0 where
  left : List ℕ
  was : old ≡ first ++ left
  is : rest ≡ left ++ more

split : (old more first rest : List ℕ) → old ++ more ≡ first ++ rest → length first ≤ length old
    → IsSplit old more first rest
split old more [] rest is below = record { left = old; was = refl; is = sym is }
split [] more (it ∷ first) rest is below = absurd (omega (arith, below))
split (one ∷ old) more (it ∷ first) rest is below =
    let same : one ≡ it = cc is in
    let others : old ++ more ≡ first ++ rest = cc is in
    let both = split old more first rest others (omega (arith, below)) in record {
      left = both.left;
      was = ap (λ x. x ∷ old) same ∙ ap (λ numbers. it ∷ numbers) both.was;
      is = both.is;
    }

nothing_left : (left more : List ℕ) → left ++ more ≡ [] → left ≡ []
nothing_left [] more none = refl
nothing_left (it ∷ left) more none = absurd (let f : ⊥ = cc none in f)

empty_list : (numbers : List ℕ) → length numbers ≤ 0 → numbers ≡ []
empty_list [] none = refl
empty_list (it ∷ others) none = absurd (omega (arith, none))

-- no more were taken than there were, and fewer than the most only where all were
module _ (count : ℕ) (old mid new : List ℕ) (later : IsTurnTaken 0 old mid)
    (taken : IsTurnTaken count mid new) where
  same_old : old ≡ later.rest
  same_old = later.was ∙ ap (λ x. x ++ later.rest) (empty_list later.first later.few)

  parts : count ≤ length old → IsSplit old later.more taken.first taken.rest
  parts below =
      split old later.more taken.first taken.rest
      (ap (λ x. x ++ later.more) same_old ∙ sym later.is ∙ taken.was)
      (omega (arith, taken.few, below))

  none_left : (its : IsSplit old later.more taken.first taken.rest)
      → (count ≡ put_off_served) ⊎ (count ≡ length old)
      → length taken.first < put_off_served → its.left ≡ []
  none_left its which less = elim (cases_lt (length taken.first) count) [
    | inl fewer ↦ nothing_left its.left later.more (sym its.is ∙ taken.all fewer)
    | inr most ↦ elim which [
      | inl all ↦ absurd (omega (arith, all, most, less))
      | inr all ↦ (
          let len = ap length its.was ∙ length-append taken.first its.left in
          empty_list its.left (omega (arith, len, all, most)))
    ]
  ]

  put_together : count ≤ length old → count ≤ put_off_served
      → (count ≡ put_off_served) ⊎ (count ≡ length old) → IsTurnTaken put_off_served old new
  put_together below few which =
      let its = parts below in record {
        first = taken.first;
        rest = its.left;
        more = later.more ++ taken.more;
        was = its.was;
        is = taken.is ∙ ap (λ x. x ++ taken.more) its.is
            ∙ append_assoc its.left later.more taken.more;
        few = omega (arith, taken.few, few);
        all = none_left its which;
      }

-- so many were counted, then others were put off, and then they were taken
pub turn_taken : (count : ℕ) (old mid new : List ℕ) → count ≡ min (length old) put_off_served
    → IsTurnTaken 0 old mid → IsTurnTaken count mid new → IsTurnTaken put_off_served old new
turn_taken count old mid new is_count later taken = elim (cases_lt (length old) put_off_served) [
  | inl less ↦ (
      let same : count ≡ length old = is_count ∙ min-eq_left (omega (arith, less)) in
      put_together count old mid new later taken (omega (arith, same)) (omega (arith, same, less))
      (inr same))
  | inr most ↦ (
      let same : count ≡ put_off_served = is_count ∙ min-eq_right most in
      put_together count old mid new later taken (omega (arith, same, most)) (omega (arith, same))
      (inl same))
]

-- as many can be taken as were counted
pub counted_few : (count : ℕ) (old mid : List ℕ) → count ≡ min (length old) put_off_served
    → IsTurnTaken 0 old mid → count ≤ length mid
counted_few count old mid is_count later =
    let len = ap length later.is ∙ length-append later.rest later.more in
    let was = ap length later.was ∙ length-append later.first later.rest in
    let least = min-le_left (length old) put_off_served in
    omega (arith, is_count, len, was, least, later.few)

-- One number's slot, and the others.
use Rattle.std.proofs.Common.{◌≡◌, ◌≢◌, ◌<◌, ℕ, List, [], refl, sym, ap, subst, ◌∙◌, inl, inr, length, Option, Some, None}
use Rattle.std.specs.Prelude.{IfNone, IfSome, slice_get, slice_set, slice_index_or}
use Rattle.std.specs.Option.{option_and_then}
use Rattle.std.proofs.lemmas.Bool.Decides.{eqb_tells}
use Rattle.std.proofs.lemmas.List.{get_or-set_same, get_or-set_other, length-set, set-get_or}
use Rattle.std.proofs.lemmas.Option.{slice_get-get_or, slice_get_within, get_or_from_slice_get}
use Rattle.tko_roster.specs.Rosters.{Acting, IsActed, IsMoved, IsNobody, IsReleased, IsSlotCall, IsVacant, RosterState, session_at}

pub get_set_same : {X : Type 0} (xs : List X) (i : ℕ) (x : X) → i < length xs
    → slice_get (slice_set xs i x) i ≡ Some x
get_set_same xs i x below =
    let inside : i < length (slice_set xs i x) =
    subst (λ n. i < n) (sym (length-set xs i x)) below in
    slice_get-get_or (slice_set xs i x) i x inside ∙ ap Some (get_or-set_same xs i x x below)

get_set_at : {X : Type 0} (xs : List X) (i j : ℕ) (x : X) (is now : Option X) → j ≢ i
    → slice_get xs j ≡ is → slice_get (slice_set xs i x) j ≡ now → now ≡ is
get_set_at xs i j x None None apart before after = refl
get_set_at {X} xs i j x None (Some y) apart before after =
    let inside : j < length (slice_set xs i x) =
    slice_get_within (slice_set xs i x) j y after in
    let below : j < length xs = subst (λ n. j < n) (length-set xs i x) inside in
    let some_none : Some (slice_index_or xs j x) ≡ None =
    sym (slice_get-get_or xs j x below) ∙ before in
    absurd (let none : ⊥ = cc some_none in none)
get_set_at {X} xs i j x (Some y) now apart before after =
    let below : j < length xs = slice_get_within xs j y before in
    let inside : j < length (slice_set xs i x) =
    subst (λ n. j < n) (sym (length-set xs i x)) below in
    sym after ∙ slice_get-get_or (slice_set xs i x) j x inside
    ∙ ap Some (get_or-set_other xs i j x x apart ∙ get_or_from_slice_get xs j y x before)

pub get_set_other : {X : Type 0} (xs : List X) (i j : ℕ) (x : X) → j ≢ i
    → slice_get (slice_set xs i x) j ≡ slice_get xs j
get_set_other xs i j x apart =
    get_set_at xs i j x (slice_get xs j) (slice_get (slice_set xs i x) j) apart refl refl

-- what is read at a place is there
pub at_index : {X : Type 0} (xs : List X) (i : ℕ) (x : X) → i < length xs
    → x ≡ slice_index_or xs i x → slice_get xs i ≡ Some x
at_index xs i x below e = slice_get-get_or xs i x below ∙ ap Some (sym e)

-- the session of a number is what its slot holds
pub held : {S : Type 0} (slots : List (Option S)) (number : ℕ) (slot : Option S)
    → slice_get slots number ≡ Some slot → session_at slots number ≡ slot
held slots number slot is = ap (option_and_then (λ one. one)) is

-- a number whose slot is written is moved, and no other
pub moved : {S : Type 0} (slots : List (Option S)) (number : ℕ) (slot now : Option S)
    → slice_get slots number ≡ Some slot
    → IsMoved slots number slot now (slice_set slots number now)
moved slots number slot now is =
    let below : number < length slots = slice_get_within slots number slot is in
    record {
      before = held slots number slot is;
      after = held (slice_set slots number now) number now (get_set_same slots number now below);
      others = λ other apart.
          ap (option_and_then (λ one. one)) (get_set_other slots number other now apart);
    }

-- a slot that is written as it was changes nothing
unchanged : {S : Type 0} (slots : List (Option S)) (number : ℕ) (slot : Option S)
    → slice_get slots number ≡ Some slot → slice_set slots number slot ≡ slots
unchanged slots number slot is =
    ap (slice_set slots number) (sym (get_or_from_slice_get slots number slot slot is))
    ∙ set-get_or slots number slot

-- the number's session made a call
pub acted : {S P I O : Type 0} (acts : Acting S P (I × O)) (p old : RosterState S P) (number : ℕ)
    (input : I) (result : Option O) (slot now : Option S) (parts : P) → p ≡ old
    → slice_get p.slots number ≡ Some slot
    → IfSome result (λ output. IsSlotCall acts slot p.parts (input, output) now parts)
    → IfSome result (λ output. IsActed acts old number (input, output)
    (record { parts = parts; slots = slice_set p.slots number now }))
acted acts p old number input None slot now parts same is call = tt
acted {S} {P} acts p old number input (Some output) slot now parts same is call =
    let new : RosterState S P = record { parts = parts; slots = slice_set p.slots number now } in
    let step : IsActed acts p number (input, output) new = record {
      was = call.was;
      now = call.now;
      moved = subst (λ s. IsMoved p.slots number s (Some call.now) new.slots) call.from
          (subst (λ s. IsMoved p.slots number slot s new.slots) call.to
          (moved p.slots number slot now is));
      made = call.made;
    } in
    subst (λ s. IsActed acts s number (input, output) new) same step

-- a number whose slot is empty stays as it is
pub idle : {S P O : Type 0} (p old : RosterState S P) (number : ℕ) (result : Option O)
    (slot now : Option S) (parts : P) → p ≡ old → slice_get p.slots number ≡ Some slot
    → IfNone result ((slot ≡ None) × (now ≡ None)) → IfNone result (parts ≡ p.parts)
    → IfNone result (IsNobody old number
    (record { parts = parts; slots = slice_set p.slots number now }))
idle p old number (Some output) slot now parts same is none kept = tt
idle {S} {P} p old number None slot now parts same is none kept =
    let stays : slice_set p.slots number now ≡ p.slots =
    ap (slice_set p.slots number) (none.1 ∙ sym none.0) ∙ unchanged p.slots number slot is in
    let as_it_was : record { parts = parts; slots = slice_set p.slots number now } ≡ old =
    ap (λ one. record { parts = one; slots = slice_set p.slots number now }) kept
    ∙ ap (λ (slots : List (Option S)). record { parts = p.parts; slots = slots }) stays
    ∙ same in
    record {
      nobody = ap (λ (s : RosterState S P). session_at s.slots number) (sym same)
          ∙ held p.slots number slot is ∙ none.0;
      kept = as_it_was;
    }

-- the same where nobody is in it who could be called
pub uncalled : {S P O : Type 0} (p old : RosterState S P) (number : ℕ) (result : Option O)
    (slot now : Option S) (parts : P) → p ≡ old → slice_get p.slots number ≡ Some slot
    → IfNone result (IsVacant slot p.parts now parts)
    → IfNone result (IsNobody old number
    (record { parts = parts; slots = slice_set p.slots number now }))
uncalled p old number (Some output) slot now parts same is vacant = tt
uncalled {S} {P} {O} p old number None slot now parts same is vacant =
    idle {S = S} {P = P} {O = O} p old number None slot now parts same is
    (vacant.none, vacant.still) vacant.kept

-- all that were ready are, and the one whose slot was written
pub ready_after : {S P : Type 0} (ready : P → S → Type 0) (slots : List (Option S)) (number : ℕ)
    (slot now : Option S) (before after : P) → slice_get slots number ≡ Some slot
    → ((other : ℕ) (session : S) → session_at slots other ≡ Some session → ready before session)
    → ((session : S) → ready before session → ready after session)
    → ((session : S) → now ≡ Some session → ready after session)
    → (other : ℕ) (session : S) → session_at (slice_set slots number now) other ≡ Some session
    → ready after session
ready_after ready slots number slot now before after is all stay mine other session at =
    let put = moved slots number slot now is in
    elim (eqb_tells other number) [
      | inl eq ↦
          mine session (sym put.after
          ∙ subst (λ n. session_at (slice_set slots number now) n ≡ Some session) eq.1 at)
      | inr ne ↦ stay session (all other session (sym (put.others other ne.1) ∙ at))
    ]

-- the number's session left
pub released : {S P : Type 0} (awaited : S → List ℕ) (p old : RosterState S P) (number : ℕ)
    (session : S) (slot now : Option S) → p ≡ old → slice_get p.slots number ≡ Some slot
    → slot ≡ Some session → now ≡ None
    → ((one : S) → session_at old.slots number ≡ Some one → awaited one ≡ [])
    → IsReleased awaited old number session
    (record { parts = p.parts; slots = slice_set p.slots number now })
released {S} {P} awaited p old number session slot now same is had none quiet =
    let new : RosterState S P =
    record { parts = p.parts; slots = slice_set p.slots number now } in
    let here : session_at old.slots number ≡ Some session =
    ap (λ (s : RosterState S P). session_at s.slots number) (sym same)
    ∙ held p.slots number slot is ∙ had in
    let step : IsReleased awaited p number session new = record {
      idle = quiet session here;
      moved = subst (λ s. IsMoved p.slots number s None new.slots) had
          (subst (λ s. IsMoved p.slots number slot s new.slots) none
          (moved p.slots number slot now is));
      parts = refl;
    } in
    subst (λ s. IsReleased awaited s number session new) same step

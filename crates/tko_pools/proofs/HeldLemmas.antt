-- Each number of a server is in the list of a child.
use Rattle.std.proofs.Common.{◌≡◌, ◌<◌, ◌≤◌, ℕ, ◌+◌, Bool, true, false, cond, List, [], ◌∷◌, ◌++◌, length, map, refl, sym, subst, ◌∙◌, arith, inl, inr, eqb}
use Rattle.std.specs.Prelude.{◌==◌, not, Some, None, is_some}
use Rattle.std.specs.List.{All, flat_map, fold, list_any, position, position_or_len, range_with_len}
use Rattle.std.specs.Str.{bytes_eq}
use Rattle.std.proofs.lemmas.Bool.{cases_Bool, cases_lt, eq-eqb, lt-ltb, ne_eqb, or_left, or_right}
use Rattle.std.proofs.lemmas.List.{length-append, map-id}
use Rattle.std.proofs.lemmas.List.Elements.{All-nil, All-cons, All-head, All-tail, All-append, All-weaker}
use Rattle.std.proofs.lemmas.List.Folds.{position_or_len_push}
use Rattle.std.proofs.lemmas.List.FromFn.{map-range_with_len_more}
use Rattle.std.proofs.lemmas.List.Sums.{prefix_len-le-length}
use Rattle.tko_pools.specs.Groups.{is_number_in}
use Rattle.tko_pools.specs.Numbering.{number_in, with_address}
use Rattle.std.proofs.lemmas.Slice.Eq.{bytes_eq-Decides}
use Rattle.serde_json.specs.Data.{Data}
use Rattle.tko_pools.specs.Configs.{addresses_of, child_of}
use Rattle.tko_pools.specs.Json.{servers_named}
use Rattle.tko_pools.proofs.KnownLemmas.{IsKnown, added-known, all-unmap, last-known, stays-known}

-- the number of an address that is there
number-is : (addresses : List (List ℕ)) (text : List ℕ) → IsKnown addresses text
    → number_in addresses text ≡ position_or_len (bytes_eq text) addresses
number-is addresses text known =
    let test = lt-ltb (position_or_len (bytes_eq text) addresses) (length addresses) known in
    rw test refl

-- a place that is found stays where another is added
place-stays : (p : List ℕ → Bool) (addresses : List (List ℕ)) (other : List ℕ)
    → position_or_len p addresses < length addresses
    → position_or_len p (addresses ++ other ∷ []) ≡ position_or_len p addresses
place-stays p addresses other known =
    let place = position_or_len p addresses in
    let test : eqb place (length addresses) ≡ false = ne_eqb place (length addresses) (λ same. omega (arith, known, same)) in
    rw (position_or_len_push p addresses other, test) refl

place-after : (addresses : List (List ℕ)) (other text : List ℕ) → IsKnown addresses text
    → position_or_len (bytes_eq text) (with_address addresses other) ≡ position_or_len (bytes_eq text) addresses
place-after addresses other text known =
    elim (cases_Bool (is_some (position (bytes_eq other) addresses))) [
      | inl found ↦ rw found refl
      | inr none ↦ rw none (place-stays (bytes_eq text) addresses other known)
    ]

-- a number stays where another address comes
number-stays : (addresses : List (List ℕ)) (other text : List ℕ) → IsKnown addresses text
    → number_in (with_address addresses other) text ≡ number_in addresses text
number-stays addresses other text known =
    number-is (with_address addresses other) text (stays-known addresses other text known)
    ∙ place-after addresses other text known ∙ sym (number-is addresses text known)

numbers-stay : (texts addresses : List (List ℕ)) (text : List ℕ) → IsKnown addresses text
    → number_in (fold with_address addresses texts) text ≡ number_in addresses text
numbers-stay [] addresses text known = refl
numbers-stay (other ∷ texts) addresses text known =
    numbers-stay texts (with_address addresses other) text (stays-known addresses other text known)
    ∙ number-stays addresses other text known

-- an address that is not there has no place
no-place : (addresses : List (List ℕ)) (text : List ℕ) → is_some (position (bytes_eq text) addresses) ≡ false
    → position_or_len (bytes_eq text) addresses ≡ length addresses
no-place addresses text none =
    let place = position_or_len (bytes_eq text) addresses in
    let most : place ≤ length addresses = prefix_len-le-length (λ other. not (bytes_eq text other)) addresses in
    elim (cases_lt place (length addresses)) [
      | inl low ↦
          let test = lt-ltb place (length addresses) low in
          let P : Bool → Type 0 = λ b. is_some (cond b (Some place) None) ≡ false in
          let never : true ≡ false = subst P test none in
          cc
      | inr high ↦ omega (arith, most, high)
    ]

-- a new address has the next number
new-number : (addresses : List (List ℕ)) (text : List ℕ) → is_some (position (bytes_eq text) addresses) ≡ false
    → number_in (addresses ++ text ∷ []) text ≡ length addresses
new-number addresses text none =
    let p = bytes_eq text in
    let same : p text ≡ true = (bytes_eq-Decides text text).1 refl in
    let at = no-place addresses text none in
    let last : IsKnown (addresses ++ text ∷ []) text = last-known p addresses text same in
    let test : eqb (position_or_len p addresses) (length addresses) ≡ true = eq-eqb _ _ at in
    let pushed = position_or_len_push p addresses text in
    number-is (addresses ++ text ∷ []) text last ∙ (rw (test, same) at pushed) ∙ omega arith

-- What holds of the number of each address that was walked holds of each number.

numbers-more : (P : ℕ → Type 0) (count : ℕ) → All P (range_with_len 0 count) → P count
    → All P (range_with_len 0 (count + 1))
numbers-more P count before last =
    let more = map-range_with_len_more (λ i. i) 0 count count (omega arith) in
    let e : range_with_len 0 (count + 1) ≡ range_with_len 0 count ++ count ∷ [] =
    rw (map-id (range_with_len 0 (count + 1)), map-id (range_with_len 0 count)) at more in
    rw e (All-append P (range_with_len 0 count) (count ∷ []) before (All-cons P count [] last (All-nil P)))

next-number : (P : ℕ → Type 0) (addresses : List (List ℕ)) (text : List ℕ)
    → All P (range_with_len 0 (length addresses)) → P (number_in (with_address addresses text) text)
    → All P (range_with_len 0 (length (with_address addresses text)))
next-number P addresses text before holds =
    elim (cases_Bool (is_some (position (bytes_eq text) addresses))) [
      | inl found ↦ rw found before
      | inr none ↦
          let Q : Bool → Type 0 = λ b. P (number_in (cond b addresses (addresses ++ text ∷ [])) text) in
          let pushed : P (number_in (addresses ++ text ∷ []) text) = subst Q none holds in
          let last : P (length addresses) = subst P (new-number addresses text none) pushed in
          rw (none, length-append addresses (text ∷ [])) (numbers-more P (length addresses) before last)
    ]

every-number : (P : ℕ → Type 0) (texts addresses : List (List ℕ))
    → All P (range_with_len 0 (length addresses))
    → All (λ text. P (number_in (fold with_address addresses texts) text)) texts
    → All P (range_with_len 0 (length (fold with_address addresses texts)))
every-number P [] addresses before all = before
every-number P (text ∷ texts) addresses before all =
    let next = with_address addresses text in
    let final = fold with_address next texts in
    let first : P (number_in final text) = All-head (λ t. P (number_in final t)) text texts all in
    let here : P (number_in next text) = subst P (numbers-stay texts next text (added-known addresses text)) first in
    every-number P texts next (next-number P addresses text before here) (All-tail (λ t. P (number_in final t)) text texts all)

-- Each number of a child is in a child.

pub all-in : (numbers : List ℕ) → All (λ number. is_number_in numbers number ≡ true) numbers
all-in [] = All-nil (λ number. is_number_in [] number ≡ true)
all-in (first ∷ numbers) =
    All-cons
    (λ number. is_number_in (first ∷ numbers) number ≡ true)
    first
    numbers
    (or_left (first == first) (is_number_in numbers first) (eq-eqb first first refl))
    (All-weaker (λ number. is_number_in numbers number ≡ true) (λ number. is_number_in (first ∷ numbers) number ≡ true) (λ number later. or_right (first == number) (is_number_in numbers number) later) numbers (all-in numbers))

-- whether a child holds a number
abbrev pub is_held : List (List ℕ) → ℕ → Bool
is_held children number = list_any (λ child. is_number_in child number) children

all-held : (children : List (List ℕ))
    → All (λ child. All (λ number. is_held children number ≡ true) child) children
all-held [] = All-nil (λ child. All (λ number. is_held [] number ≡ true) child)
all-held (child ∷ children) =
    let Held : ℕ → Type 0 = λ number. is_held (child ∷ children) number ≡ true in
    let Later : ℕ → Type 0 = λ number. is_held children number ≡ true in
    All-cons
    (All Held)
    child
    children
    (All-weaker (λ number. is_number_in child number ≡ true) Held (λ number here. or_left (is_number_in child number) (is_held children number) here) child (all-in child))
    (All-weaker (All Later) (All Held) (λ other. All-weaker Later Held (λ number later. or_right (is_number_in child number) (is_held children number) later) other) children (all-held children))

flat-all : {X A : Type 0} (P : A → Type 0) (f : X → List A) (xs : List X) → All (λ x. All P (f x)) xs
    → All P (flat_map f xs)
flat-all P f [] h = All-nil P
flat-all P f (x ∷ xs) h =
    All-append P (f x) (flat_map f xs) (All-head (λ y. All P (f y)) x xs h) (flat-all P f xs (All-tail (λ y. All P (f y)) x xs h))

-- each number below how many addresses there are is in a child
pub all-numbers-held : (pools : Data) (names : List (List ℕ)) (addresses children : List (List ℕ))
    → addresses ≡ addresses_of pools names → children ≡ map (child_of addresses pools) names
    → All (λ number. is_held children number ≡ true) (range_with_len 0 (length addresses))
all-numbers-held pools names addresses children numbered_so children_so =
    let Held : ℕ → Type 0 = λ number. is_held children number ≡ true in
    let texts = flat_map (servers_named pools) names in
    let held : All (All Held) (map (child_of addresses pools) names) = subst (All (All Held)) children_so (all-held children) in
    let named : All (λ name. All Held (child_of addresses pools name)) names = all-unmap (All Held) (child_of addresses pools) names held in
    let each : All (λ name. All (λ text. Held (number_in addresses text)) (servers_named pools name)) names =
    All-weaker (λ name. All Held (child_of addresses pools name)) (λ name. All (λ text. Held (number_in addresses text)) (servers_named pools name)) (λ name. all-unmap Held (number_in addresses) (servers_named pools name)) names named in
    let walked : All (λ text. Held (number_in addresses text)) texts = flat-all (λ text. Held (number_in addresses text)) (servers_named pools) names each in
    let P : List (List ℕ) → Type 0 = λ it. All Held (range_with_len 0 (length it)) in
    let Q : List (List ℕ) → Type 0 = λ it. All (λ text. Held (number_in it text)) texts in
    subst P (sym numbered_so) (every-number Held texts [] (All-nil Held) (subst Q numbered_so walked))

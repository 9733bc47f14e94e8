-- The places of the keys that are out: how often each is there, how many they are, and what all
-- have.
use Rattle.std.proofs.Common.{◌≡◌, ◌≢◌, ◌≤◌, ◌+◌, ◌==◌, ℕ, Bool, true, false, List, [], ◌∷◌, ◌++◌}
use Rattle.std.proofs.Common.{cond, length, length-append, map, refl, sym, ap, ◌∙◌, arith, inl, inr}
use Rattle.std.proofs.Common.{true≢false}
use Rattle.std.specs.Prelude.{All, count_by, flat_map, slice_index_or}
use Rattle.std.proofs.lemmas.Bool.Decides.{eqb_tells}
use Rattle.std.proofs.lemmas.List.{length-map}
use Rattle.std.proofs.lemmas.List.Elements.{All-cons, All-head, All-nil, All-tail}
use Rattle.std.proofs.lemmas.List.Sums.{get_or-le-sum_by, sum_by-append, sum_by-cons}
use Rattle.std.proofs.lemmas.Option.{slice_get_past}
use Rattle.tko_keys.specs.KeysDriven.{outs_at, outs_in}
use Rattle.tko_keys.specs.KeysState.{DueKey, KeySend, KeySlot, KeysCame, key_places_in}

-- what holds of all parts of a list
pub all_split : {X : Type 0} (P : X → Type 0) (xs ys : List X) → All P (xs ++ ys)
    → All P xs × All P ys
all_split P [] ys all = (All-nil P, all)
all_split P (x ∷ xs) ys all =
    let rest = all_split P xs ys (All-tail P x (xs ++ ys) all) in
    (All-cons P x xs (All-head P x (xs ++ ys) all) rest.0, rest.1)

-- how often a place is among these
abbrev pub count_at : ℕ → List ℕ → ℕ
count_at place places = count_by (λ (other : ℕ). other == place) places

pub count_append : (place : ℕ) (xs ys : List ℕ)
    → count_at place (xs ++ ys) ≡ count_at place xs + count_at place ys
count_append place xs ys = sum_by-append (λ (other : ℕ). cond (other == place) 1 0) xs ys

pub count_cons : (place one : ℕ) (xs : List ℕ)
    → count_at place (one ∷ xs) ≡ cond (one == place) 1 0 + count_at place xs
count_cons place one xs = sum_by-cons (λ (other : ℕ). cond (other == place) 1 0) one xs

pub no_more : (b : Bool) → cond b 1 0 ≤ 0 → b ≡ false
no_more true few = absurd (omega (arith, few))
no_more false few = refl

pub ne_from : (x y : ℕ) → (x == y) ≡ false → x ≢ y
ne_from x y is = elim (eqb_tells x y) [
  | inl eq ↦ absurd (true≢false (sym eq.0 ∙ is))
  | inr ne ↦ ne.1
]

-- none of them is this place
pub apart_at : (place : ℕ) (xs : List ℕ) → count_at place xs ≡ 0
    → All (λ (other : ℕ). other ≢ place) xs
apart_at place xs none = λ k d within.
    ne_from (slice_index_or xs k d) place
    (no_more _ (omega (
      arith,
      none,
      get_or-le-sum_by (λ (other : ℕ). cond (other == place) 1 0) xs k d within,
    )))

abbrev pub due_places : List DueKey → List ℕ
due_places due = map (λ (it : DueKey). it.place) due

abbrev pub send_places : List KeySend → List ℕ
send_places sends = flat_map (λ (send : KeySend). send.places) sends

pub count_in : (at : ℕ) (due : List DueKey) (sends : List KeySend) (came : KeysCame)
    → count_at at (key_places_in due sends came) ≡ count_at at (due_places
    due) + (count_at at (send_places sends) + count_at at came.places)
count_in at due sends came =
    count_append at (due_places due) (send_places sends ++ came.places)
    ∙ ap (λ n. count_at at (due_places due) + n) (count_append at (send_places sends) came.places)

pub length_in : (due : List DueKey) (sends : List KeySend) (came : KeysCame)
    → length (key_places_in due sends came) ≡ length
    due + (length (send_places sends) + length came.places)
length_in due sends came =
    omega (
      arith,
      length-append (due_places due) (send_places sends ++ came.places),
      length-append (send_places sends) came.places,
      length-map due (λ (it : DueKey). it.place),
    )

pub due_apart : (place : ℕ) (due : List DueKey) → count_at place (due_places due) ≡ 0
    → All (λ (it : DueKey). it.place ≢ place) due
due_apart place [] none = All-nil (λ (it : DueKey). it.place ≢ place)
due_apart place (it ∷ due) none =
    let all = count_cons place it.place (due_places due) in
    All-cons (λ (one : DueKey). one.place ≢ place) it due
    (ne_from it.place place (no_more _ (omega (arith, none, all))))
    (due_apart place due (omega (arith, none, all)))

pub send_apart : (place : ℕ) (sends : List KeySend) → count_at place (send_places sends) ≡ 0
    → All (λ (send : KeySend). count_at place send.places ≡ 0) sends
send_apart place [] none = All-nil (λ (send : KeySend). count_at place send.places ≡ 0)
send_apart place (send ∷ sends) none =
    let all = count_append place send.places (send_places sends) in
    All-cons (λ (one : KeySend). count_at place one.places ≡ 0) send sends
    (omega (arith, none, all)) (send_apart place sends (omega (arith, none, all)))

module _ (slots : List KeySlot) where
  pub none_more : (b : Bool) → cond b (outs_at slots (length slots)) 0 ≡ 0
  none_more true = ap outs_in (slice_get_past slots (length slots) (omega arith))
  none_more false = refl

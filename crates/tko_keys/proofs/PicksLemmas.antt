-- Which of the keys that are due at a server go out to it, and which stay.
use Rattle.std.proofs.Common.{◌≡◌, ◌+◌, ℕ, List, [], ◌∷◌, ◌++◌, cond, length, Some, None, refl, sym}
use Rattle.std.proofs.Common.{ap, subst, ◌∙◌, arith, inl, inr}
use Rattle.std.specs.Prelude.{All}
use Rattle.std.proofs.lemmas.List.Elements.{All-cons, All-head, All-nil, All-tail}
use Rattle.std.proofs.lemmas.Option.{none-some}
use Rattle.std.proofs.lemmas.Bool.Decides.{eqb_tells}
use Rattle.tko_keys.specs.KeysDriven.{due as due_at}
use Rattle.tko_keys.specs.KeysState.{DueKey, first_due}
use Rattle.tko_keys.specs.Lines.{Picks}
use Rattle.tko_keys.specs.Lines.Picks.{none_due, goes, stays}
use Rattle.tko_keys.specs.Lines as picks
use Rattle.tko_keys.proofs.OutLemmas.{count_at, count_cons, due_places}

module _ {server : ℕ} where
  pub picks_count : {due : List DueKey} {places : List ℕ} {stay : List DueKey} (at : ℕ)
      → Picks server due places stay
      → count_at at (due_places due) ≡ count_at at places + count_at at (due_places stay)
  picks_count at (picks.none_due due places stay none nowhere over) =
      omega (
        arith,
        ap (λ ds. count_at at (due_places ds)) none,
        ap (count_at at) nowhere,
        ap (λ ds. count_at at (due_places ds)) over,
      )
  picks_count at (picks.goes due places stay it rest more are to gone on) =
      omega (
        arith,
        ap (λ ds. count_at at (due_places ds)) are,
        ap (count_at at) gone,
        count_cons at it.place (due_places rest),
        count_cons at it.place more,
        picks_count at on,
      )
  picks_count at (picks.stays due places stay it rest others are left on) =
      omega (
        arith,
        ap (λ ds. count_at at (due_places ds)) are,
        ap (λ ds. count_at at (due_places ds)) left,
        count_cons at it.place (due_places rest),
        count_cons at it.place (due_places others),
        picks_count at on,
      )

  pub picks_length : {due : List DueKey} {places : List ℕ} {stay : List DueKey}
      → Picks server due places stay → length due ≡ length places + length stay
  picks_length (picks.none_due due places stay none nowhere over) =
      omega (arith, ap length none, ap length nowhere, ap length over)
  picks_length (picks.goes due places stay it rest more are to gone on) =
      omega (arith, ap length are, ap length gone, picks_length on)
  picks_length (picks.stays due places stay it rest others are left on) =
      omega (arith, ap length are, ap length left, picks_length on)

  pub picks_stay : (P : DueKey → Type 0) {due : List DueKey} {places : List ℕ} {stay : List DueKey}
      → Picks server due places stay → All P due → All P stay
  picks_stay P (picks.none_due due places stay none nowhere over) all =
      subst (All P) (sym over) (All-nil P)
  picks_stay P (picks.goes due places stay it rest more are to gone on) all =
      picks_stay P on (All-tail P it rest (subst (All P) are all))
  picks_stay P (picks.stays due places stay it rest others are left on) all =
      let parts = subst (All P) are all in
      subst (All P) (sym left)
      (All-cons P it others (All-head P it rest parts)
      (picks_stay P on (All-tail P it rest parts)))

  pub picks_go : (P : DueKey → Type 0) {due : List DueKey} {places : List ℕ} {stay : List DueKey}
      → Picks server due places stay → All P due
      → All (λ place. P (due_at place server)) places
  picks_go P (picks.none_due due places stay none nowhere over) all =
      subst (All (λ place. P (due_at place server))) (sym nowhere)
      (All-nil (λ place. P (due_at place server)))
  picks_go P (picks.goes due places stay it rest more are to gone on) all =
      let parts = subst (All P) are all in
      let here : P (due_at it.place server) =
      subst (λ n. P (due_at it.place n)) to (All-head P it rest parts) in
      subst (All (λ place. P (due_at place server))) (sym gone)
      (All-cons (λ place. P (due_at place server)) it.place more here
      (picks_go P on (All-tail P it rest parts)))
  picks_go P (picks.stays due places stay it rest others are left on) all =
      picks_go P on (All-tail P it rest (subst (All P) are all))

pub cons_or_nil : {X : Type 0} (x : X) (xs : List X) → x ∷ xs ≡ [] → ⊥
cons_or_nil x xs e = cc

head_of : {X : Type 0} (x y : X) (xs ys : List X) → x ∷ xs ≡ y ∷ ys → x ≡ y
head_of x y xs ys e = cc

tail_of : {X : Type 0} (x y : X) (xs ys : List X) → x ∷ xs ≡ y ∷ ys → xs ≡ ys
tail_of x y xs ys e = cc

-- a key that is not due at the server stays
pass : {server : ℕ} (one : DueKey) (others new : List DueKey) (places places' : List ℕ)
    (stay : List DueKey) → (one.server ≡ server → ⊥) → (due : List DueKey) → due ≡ one ∷ others
    → ((left : List DueKey) → Picks server others places left → Picks server new places' left)
    → Picks server due places stay → Picks server (one ∷ new) places' stay
pass one others new places places' stay apart due is on (none_due d p s none nowhere over) =
    absurd (cons_or_nil one others (sym is ∙ none))
pass one others new places places' stay apart due is on (goes d p s it rest more are to at picks) =
    absurd (apart (ap (λ (k : DueKey). k.server) (head_of one it others rest (sym is ∙ are)) ∙ to))
pass {server} one others new places places' stay apart due is on
    (stays d p s it rest left are kept picks) =
    let same : it ≡ one = sym (head_of one it others rest (sym is ∙ are)) in
    stays (one ∷ new) places' stay one new left refl (kept ∙ ap (λ (k : DueKey). k ∷ left) same)
    (on left (subst (λ r. Picks server r places left)
    (sym (tail_of one it others rest (sym is ∙ are))) picks))

-- the first key at a server goes with some of those behind it
pub picks_first : {server : ℕ} (before rest : List DueKey) (it : DueKey) (places : List ℕ)
    (stay : List DueKey) → first_due server before ≡ None → it.server ≡ server
    → Picks server (before ++ rest) places stay
    → Picks server (before ++ it ∷ rest) (it.place ∷ places) stay
picks_first [] rest it places stay none meets picks =
    goes (it ∷ rest) (it.place ∷ places) stay it rest places refl meets refl picks
picks_first {server} (one ∷ before) rest it places stay none meets picks =
    elim (eqb_tells one.server server) [
      | inl eq ↦ absurd (none-some one
          (sym none ∙ ap (λ b. cond b (Some one) (first_due server before)) eq.0))
      | inr ne ↦
          let behind : first_due server before ≡ None =
          sym (ap (λ b. cond b (Some one) (first_due server before)) ne.0) ∙ none in
          pass one (before ++ rest) (before ++ it ∷ rest) places (it.place ∷ places) stay ne.1
          (one ∷ (before ++ rest)) refl
          (λ left on. picks_first before rest it places left behind meets on) picks
    ]

pub picks_none : {server : ℕ} (due : List DueKey) → Picks server due [] due
picks_none [] = none_due [] [] [] refl refl refl
picks_none (it ∷ due) = stays (it ∷ due) [] (it ∷ due) it due due refl refl (picks_none due)

module _ {server : ℕ} where
  pub picks_goes : {due : List DueKey} {places : List ℕ} {stay : List DueKey} (it : DueKey)
      → it.server ≡ server → Picks server due places stay
      → Picks server (due ++ it ∷ []) (places ++ it.place ∷ []) stay
  picks_goes it meets (none_due due places stay none nowhere over) =
      goes (due ++ it ∷ []) (places ++ it.place ∷ []) stay it [] []
      (ap (λ xs. xs ++ it ∷ []) none) meets (ap (λ xs. xs ++ it.place ∷ []) nowhere)
      (none_due [] [] stay refl refl over)
  picks_goes it meets (goes due places stay one rest more are to at on) =
      goes (due ++ it ∷ []) (places ++ it.place ∷ []) stay one (rest ++ it ∷ [])
      (more ++ it.place ∷ []) (ap (λ xs. xs ++ it ∷ []) are) to
      (ap (λ xs. xs ++ it.place ∷ []) at) (picks_goes it meets on)
  picks_goes it meets (stays due places stay one rest others are left on) =
      stays (due ++ it ∷ []) (places ++ it.place ∷ []) stay one (rest ++ it ∷ []) others
      (ap (λ xs. xs ++ it ∷ []) are) left (picks_goes it meets on)

  pub picks_stays : {due : List DueKey} {places : List ℕ} {stay : List DueKey} (it : DueKey)
      → Picks server due places stay
      → Picks server (due ++ it ∷ []) places (stay ++ it ∷ [])
  picks_stays it (none_due due places stay none nowhere over) =
      stays (due ++ it ∷ []) places (stay ++ it ∷ []) it [] [] (ap (λ xs. xs ++ it ∷ []) none)
      (ap (λ xs. xs ++ it ∷ []) over)
      (none_due [] places [] refl nowhere refl)
  picks_stays it (goes due places stay one rest more are to at on) =
      goes (due ++ it ∷ []) places (stay ++ it ∷ []) one (rest ++ it ∷ []) more
      (ap (λ xs. xs ++ it ∷ []) are) to at (picks_stays it on)
  picks_stays it (stays due places stay one rest others are left on) =
      stays (due ++ it ∷ []) places (stay ++ it ∷ []) one (rest ++ it ∷ []) (others ++ it ∷ [])
      (ap (λ xs. xs ++ it ∷ []) are)
      (ap (λ xs. xs ++ it ∷ []) left) (picks_stays it on)

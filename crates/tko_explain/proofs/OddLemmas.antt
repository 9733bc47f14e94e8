-- What is said of addresses, one after another.
use Rattle.std.proofs.Common.{◌≡◌, ℕ, suc, ◌+◌, ◌<◌, ◌≤◌, List, [], ◌∷◌, ◌++◌, length, get_or, drop, map, refl, sym, ap, ◌∙◌, subst, append_assoc, append-nil, add-one, codes}
use Rattle.std.proofs.lemmas.List.{drop_all}
use Rattle.std.proofs.Math.Seq.{drop-cons}
use Rattle.tko_explain.specs.OddAddresses.{AreAddressNotes, IsAddressNote}

-- the note of one more address
pub notes_left : {A : Type 0} (f : A → List ℕ) (all : List (List ℕ)) (xs : List A) (i : ℕ) (item : A)
    (text note new : List ℕ) → i < length xs → item ≡ get_or xs i item → IsAddressNote (codes "server") (f item) note → new ≡ text ++ note
    → ((rest : List ℕ) → AreAddressNotes (map f (drop i xs)) rest → AreAddressNotes all (text ++ rest))
    → (rest : List ℕ) → AreAddressNotes (map f (drop (i + 1) xs)) rest → AreAddressNotes all (new ++ rest)
notes_left f all xs i item text note new inside here is grown so_far rest are =
    let split : drop i xs ≡ item ∷ drop (suc i) xs =
    drop-cons xs i item inside ∙ ap (λ x. x ∷ drop (suc i) xs) (sym here) in
    let after : AreAddressNotes (map f (drop (suc i) xs)) rest = subst (λ n. AreAddressNotes (map f (drop n xs)) rest) (add-one i) are in
    let more : AreAddressNotes (map f (drop i xs)) (note ++ rest) =
    subst (λ them. AreAddressNotes (map f them) (note ++ rest)) (sym split) (note, rest, is, after, refl) in
    let whole : text ++ (note ++ rest) ≡ new ++ rest = sym (ap (λ front. front ++ rest) grown ∙ append_assoc text note rest) in
    subst (λ it. AreAddressNotes all it) whole (so_far (note ++ rest) more)

-- no address is left
pub notes_done : {A : Type 0} (f : A → List ℕ) (all : List (List ℕ)) (xs : List A) (i : ℕ) (text : List ℕ) → length xs ≤ i
    → ((rest : List ℕ) → AreAddressNotes (map f (drop i xs)) rest → AreAddressNotes all (text ++ rest))
    → AreAddressNotes all text
notes_done f all xs i text past so_far =
    let none : AreAddressNotes (map f (drop i xs)) [] = subst (λ them. AreAddressNotes (map f them) []) (sym (drop_all i xs past)) refl in
    subst (λ it. AreAddressNotes all it) (append-nil text) (so_far [] none)

-- The fields of a line, one after another.
use Rattle.std.proofs.Common.{◌≡◌, ℕ, ◌+◌, ◌-◌, ◌<◌, true, List, [], ◌∷◌, Some, None, length, get_or, take, drop, refl, sym, ap, ◌∙◌, length-drop, arith}
use Rattle.std.specs.List.{slice_split, position_or_len}
use Rattle.std.proofs.lemmas.Bool.{false_from_ne_true}
use Rattle.std.proofs.lemmas.Grind.{get_or_default_zero}
use Rattle.std.proofs.lemmas.List.{take_all}
use Rattle.std.proofs.lemmas.List.Sums.{position_or_len_is}
use Rattle.std.proofs.lemmas.List.Splits.{slice_split_first, slice_split_none}
use Rattle.memchr.specs.Find.{is_byte, Nowhere, NoneBefore, Passes}
use Rattle.tko_bytes.specs.Fields.{fields_in}
use Rattle.tko_bytes.specs.Words.{space}

-- what begins at a place
rest_from : (xs : List ℕ) (i : ℕ) → drop i xs ≡ take (length xs - i) (drop i xs)
rest_from xs i = sym (take_all (length xs - i) (drop i xs) (simp length-drop (omega arith)))

place_is : (b : ℕ) (xs : List ℕ) (i : ℕ) → i < length xs → Nowhere (Passes (is_byte b) xs) 0 i → is_byte b (get_or xs i 0) ≡ true
    → position_or_len (is_byte b) xs ≡ i
place_is b xs i inside before here =
    position_or_len_is (is_byte b) xs i 0 (omega arith)
    (λ k h. false_from_ne_true (is_byte b (get_or xs k 0)) (before k (omega arith) h)) (λ _. here)

-- the part before the first of these bytes, and those that follow it
parts_at : (b : ℕ) (xs : List ℕ) (i : ℕ) → NoneBefore (Passes (is_byte b) xs) 0 (length xs) i × Passes (is_byte b) xs i
    → slice_split (is_byte b) xs ≡ take i xs ∷ slice_split (is_byte b) (drop (i + 1) xs)
parts_at b xs i found =
    let place = place_is b xs i found.0.high found.0.before found.1 in
    let inside : position_or_len (is_byte b) xs < length xs = omega (arith, place, found.0.high) in
    slice_split_first (is_byte b) xs 0 inside
    ∙ ap (λ n. take n xs ∷ slice_split (is_byte b) (drop (n + 1) xs)) place

-- where there is none, all is one part
parts_none : (b : ℕ) (xs : List ℕ) → Nowhere (Passes (is_byte b) xs) 0 (length xs)
    → slice_split (is_byte b) xs ≡ xs ∷ []
parts_none b xs nowhere =
    slice_split_none (is_byte b) xs
    (λ k d h. false_from_ne_true (is_byte b (get_or xs k d)) (λ e. nowhere k (omega arith) h (rw (get_or_default_zero xs k d h) at e)))

pub fields_in-none : fields_in None ≡ []
unfolding fields_in
fields_in-none = refl

pub fields_in-at : (line : List ℕ) (i : ℕ) → NoneBefore (Passes (is_byte space) line) 0 (length line) i × Passes (is_byte space) line i
    → fields_in (Some line) ≡ take i line ∷ fields_in (Some (take (length line - (i + 1)) (drop (i + 1) line)))
unfolding fields_in
fields_in-at line i found =
    parts_at space line i found
    ∙ ap (λ rest. take i line ∷ slice_split (is_byte space) rest) (rest_from line (i + 1))

pub fields_in-last : (line : List ℕ) → Nowhere (Passes (is_byte space) line) 0 (length line) → fields_in (Some line) ≡ line ∷ fields_in None
unfolding fields_in
fields_in-last line nowhere = parts_none space line nowhere

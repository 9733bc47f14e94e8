-- The pieces of a printed request.
use Rattle.std.proofs.Common.{◌≡◌, ℕ, ◌≤◌, List, [], ◌∷◌, ◌++◌, length, take, drop, get_or, ◌+◌, ◌<◌, refl, ap, sym, ◌∙◌, append_assoc, arith, Bool, true, false, Some, None, Result, Ok, Err, OnOk, OnErr}
use Rattle.std.proofs.Math.Seq.{take-append_seam}
use Rattle.std.proofs.lemmas.List.{append-nil, drop_all, drop_more, take-append-le, length-take}
use Rattle.std.specs.Fmt.{decimal, signed_decimal}
use Rattle.std.specs.List.{join_with_byte}
use Rattle.std.specs.Prelude.{codes}
use Rattle.tko_bytes.specs.Lines.{crlf}
use Rattle.tko_bytes.specs.Words.{space}
use Rattle.tko_text.specs.declared.request.Entry.{Entry}
use Rattle.tko_text.specs.Requests.{keys_text, line_of_words, noreply_text, stored_pieces, stored_text}

-- words, with a space before each but the first
pub join-keys : (word : List ℕ) (keys : List (List ℕ)) → join_with_byte space (word ∷ keys) ≡ word ++ keys_text keys
join-keys word [] = sym (append-nil word)
join-keys word (key ∷ keys) = ap (λ xs. word ++ space ∷ xs) (join-keys key keys)

pub keys_line : (word : List ℕ) (keys : List (List ℕ)) → line_of_words (word ∷ keys) ≡ word ++ keys_text keys ++ crlf
keys_line word keys = ap (λ xs. xs ++ crlf) (join-keys word keys)

-- one key more
pub keys_more : (out new all key bytes : List ℕ) (keys : List (List ℕ)) (i : ℕ) → i < length keys → key ≡ get_or keys i key → bytes ≡ key
    → new ≡ out ++ (space ∷ (bytes ++ [])) → out ++ keys_text (drop i keys) ≡ all → new ++ keys_text (drop (i + 1) keys) ≡ all
keys_more out new all key bytes keys i inside here same is before =
    let rest = keys_text (drop (i + 1) keys) in
    ap (λ xs. xs ++ rest) (is ∙ ap (λ b. out ++ (space ∷ b)) (append-nil bytes ∙ same ∙ here))
    ∙ append_assoc out (space ∷ get_or keys i key) rest
    ∙ sym (ap (λ ks. out ++ keys_text ks) (drop_more keys i key inside))
    ∙ before

-- all keys, and the end of the line
pub keys_done : (start word out new : List ℕ) (keys : List (List ℕ)) (i : ℕ) → length keys ≤ i
    → out ++ keys_text (drop i keys) ≡ start ++ word ++ keys_text keys → new ≡ out ++ crlf → new ≡ start ++ line_of_words (word ∷ keys)
keys_done start word out new keys i past all is =
    is ∙ ap (λ xs. xs ++ crlf) (sym (append-nil out) ∙ sym (ap (λ ks. out ++ keys_text ks) (drop_all i keys past)) ∙ all)
    ∙ rw (keys_line word keys) (simp append_assoc)

-- a list begins with what it was made of
pub begins_with : (start xs more : List ℕ) → xs ≡ start ++ more → take (length start) xs ≡ start
begins_with start xs more is = ap (λ ys. take (length start) ys) is ∙ take-append_seam start more

-- and so does a longer one
pub begins_more : (start xs ys more : List ℕ) → take (length start) xs ≡ start → ys ≡ xs ++ more → take (length start) ys ≡ start
begins_more start xs ys more is longer =
    let within : length start ≤ length xs = omega (arith, sym (ap length is), length-take (length start) xs) in
    ap (λ zs. take (length start) zs) longer ∙ take-append-le (length start) xs more within ∙ is

-- a fact is one at an Err
pub at_err : {T E P : Type 0} (r : Result T E) → P → OnErr r P
at_err (Ok x) p = tt
at_err (Err e) p = p

-- with what an append leaves at its Err
pub begins_at_err : {T E : Type 0} (r : Result T E) (start xs ys : List ℕ) → take (length start) xs ≡ start
    → OnErr r (ys ≡ xs) → OnErr r (take (length start) ys ≡ start)
begins_at_err (Ok x) start xs ys is same = tt
begins_at_err (Err e) start xs ys is same = ap (λ zs. take (length start) zs) same ∙ is

-- what follows from what holds at an Ok
pub at_ok : {T E P Q : Type 0} (r : Result T E) → (P → Q) → OnOk r P → OnOk r Q
at_ok (Ok x) f p = f p
at_ok (Err e) f p = tt

-- the pieces of a storage request, as a line and its data
joined : (w k f e z r v : List ℕ)
    → w ++ codes " " ++ k ++ codes " " ++ f ++ codes " " ++ e ++ codes " " ++ z ++ r ++ crlf ++ v ++ crlf
    ≡ (w ++ (space ∷ (k ++ (space ∷ (f ++ (space ∷ (e ++ (space ∷ (z ++ r))))))))) ++ crlf ++ v ++ crlf
joined w k f e z r v = simp append_assoc

pub stored_plain : (word : List ℕ) (entry : Entry) (noreply : Bool)
    → stored_pieces word entry ([] ++ [] ++ noreply_text noreply) ≡ stored_text word entry None noreply
stored_plain word entry true =
    joined word entry.key (decimal entry.flags) (signed_decimal entry.expiry) (decimal (length entry.value)) (codes " noreply") entry.value
stored_plain word entry false =
    joined word entry.key (decimal entry.flags) (signed_decimal entry.expiry) (decimal (length entry.value)) [] entry.value
    ∙ rw append-nil refl

pub stored_compared : (word : List ℕ) (entry : Entry) (unique : ℕ) (noreply : Bool)
    → stored_pieces word entry (codes " " ++ decimal unique ++ noreply_text noreply) ≡ stored_text word entry (Some unique) noreply
stored_compared word entry unique true =
    joined word entry.key (decimal entry.flags) (signed_decimal entry.expiry) (decimal (length entry.value)) (codes " " ++ decimal unique ++ codes " noreply") entry.value
stored_compared word entry unique false =
    joined word entry.key (decimal entry.flags) (signed_decimal entry.expiry) (decimal (length entry.value)) (codes " " ++ decimal unique ++ []) entry.value
    ∙ rw append-nil refl

-- so many pieces, appended one after another
in_a_row : (a b c d e f g h i j k l m n o : List ℕ)
    → a ++ (b ++ (c ++ (d ++ (e ++ (f ++ (g ++ (h ++ (i ++ (j ++ (k ++ (l ++ (m ++ (n ++ (o ++ []))))))))))))))
    ≡ a ++ b ++ c ++ d ++ e ++ f ++ g ++ h ++ i ++ (j ++ k ++ l) ++ m ++ n ++ o
in_a_row a b c d e f g h i j k l m n o = simp (append_assoc, append-nil)

pub stored_in_a_row : (word : List ℕ) (entry : Entry) (key flags expiry size a b c value : List ℕ) → key ≡ entry.key → flags ≡ decimal entry.flags
    → expiry ≡ signed_decimal entry.expiry → size ≡ decimal (length value) → value ≡ entry.value
    → word ++ (codes " " ++ (key ++ (codes " " ++ (flags ++ (codes " " ++ (expiry ++ (codes " " ++ (size ++ (a ++ (b ++ (c ++ (codes "\r\n" ++ (value ++ (codes "\r\n" ++ []))))))))))))))
    ≡ stored_pieces word entry (a ++ b ++ c)
stored_in_a_row word entry key flags expiry size a b c value keys same_flags expiries sizes same =
    rw (keys, same_flags, expiries, sizes, same)
    (in_a_row word (codes " ") entry.key (codes " ") (decimal entry.flags) (codes " ") (signed_decimal entry.expiry) (codes " ")
    (decimal (length entry.value)) a b c (codes "\r\n") entry.value (codes "\r\n"))

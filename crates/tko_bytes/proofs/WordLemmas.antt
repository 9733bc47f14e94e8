-- The words of a line.
use Rattle.std.proofs.Common.{◌≡◌, ◌≢◌, ℕ, ◌+◌, ◌<◌, ◌≤◌, zero, suc, true, false, cond, eqb, List, [], ◌∷◌, length, take, drop, get_or, refl, ap, sym, ◌∙◌, inl, inr, arith, Option, Some, None, unwrap_or}
use Rattle.std.proofs.lemmas.Bool.{ne_eqb, eq-eqb, eqb-true, cases_Bool, cond-true, cond-false}
use Rattle.std.proofs.lemmas.List.{at_drop_more, take_all, drop_all, nil_from_length}
use Rattle.memchr.specs.Find.{IsFirstByte, is_byte}
use Rattle.tko_bytes.specs.Words.{unspaced, front_word, after_word, words_from, words, SplitsWord}

-- with the spaces in front of place i passed over, one more step
pub unspaced_at : (xs : List ℕ) (i : ℕ) → i < length xs → unspaced (drop i xs) ≡ cond (eqb (get_or xs i 0) 32) (unspaced (drop (i + 1) xs)) (drop i xs)
unspaced_at xs i lt = at_drop_more unspaced xs i 0 lt ∙ ap (cond (eqb (get_or xs i 0) 32) (unspaced (drop (i + 1) xs))) (sym (at_drop_more (λ ys. ys) xs i 0 lt))

-- spaces in front make no word
words-unspaced : (xs : List ℕ) → words xs ≡ words (unspaced xs)
words-unspaced [] = refl
words-unspaced (b ∷ bs) = elim (cases_Bool (eqb b 32)) [
  | inl e ↦ cond-true _ _ _ e ∙ words-unspaced bs ∙ sym (ap words (cond-true _ _ _ e))
  | inr e ↦ sym (ap words (cond-false _ _ _ e))
]

-- inside a word, the words that follow are those behind it
words_from-inside : (xs : List ℕ) → words_from true xs ≡ words (after_word xs)
words_from-inside [] = refl
words_from-inside (b ∷ bs) = elim (cases_Bool (eqb b 32)) [
  | inl e ↦ cond-true _ _ _ e ∙ sym (ap words (cond-true _ _ _ e) ∙ cond-true _ _ _ e)
  | inr e ↦ cond-false _ _ _ e ∙ words_from-inside bs ∙ sym (ap words (cond-false _ _ _ e))
]

-- what is left without spaces in front is nothing, or begins with a word
words-start : (b : ℕ) (bs : List ℕ) → eqb b 32 ≡ false → words (b ∷ bs) ≡ front_word (b ∷ bs) ∷ words (after_word (b ∷ bs))
words-start b bs e =
    cond-false _ _ _ e ∙ ap (λ ws. front_word (b ∷ bs) ∷ ws) (words_from-inside bs ∙ sym (ap words (cond-false _ _ _ e)))

-- no space stands first
unspaced_first : (xs : List ℕ) (b : ℕ) (bs : List ℕ) → unspaced xs ≡ b ∷ bs → eqb b 32 ≡ false
unspaced_first [] b bs e = absurd (cc)
unspaced_first (x ∷ xs) b bs e = elim (cases_Bool (eqb x 32)) [
  | inl h ↦ unspaced_first xs b bs (sym (cond-true _ _ _ h) ∙ e)
  | inr h ↦ let same : x ∷ xs ≡ b ∷ bs = sym (cond-false _ _ _ h) ∙ e in let head : x ≡ b = cc in ap (λ n. eqb n 32) (sym head) ∙ h
]

words_split : (xs ys : List ℕ) → unspaced xs ≡ ys → 0 < length ys → words xs ≡ front_word ys ∷ words (after_word ys)
words_split xs [] e lt = absurd (omega arith)
words_split xs (b ∷ bs) e lt = words-unspaced xs ∙ ap words e ∙ words-start b bs (unspaced_first xs b bs e)

-- a line without a first word is blank
pub words_blank : (xs : List ℕ) → length (unspaced xs) ≡ 0 → (words xs ≡ []) × (unspaced xs ≡ [])
words_blank xs e = let nil : unspaced xs ≡ [] = nil_from_length _ e in (words-unspaced xs ∙ ap words nil, nil)

-- the first space ends the word
word_ends : (xs : List ℕ) (n : ℕ) → n ≤ length xs → ((k : ℕ) → k < n → get_or xs k 0 ≢ 32) → (n < length xs → get_or xs n 0 ≡ 32) → (front_word xs ≡ take n xs) × (after_word xs ≡ drop n xs)
word_ends [] n le before at = (sym (take_all n [] (omega arith)), sym (drop_all n [] (omega arith)))
word_ends (x ∷ xs) zero le before at =
    let e : eqb x 32 ≡ true = eq-eqb x 32 (at (omega arith)) in (cond-true _ _ _ e, cond-true _ _ _ e)
word_ends (x ∷ xs) (suc n) le before at =
    let e : eqb x 32 ≡ false = ne_eqb x 32 (before 0 (omega arith)) in
    let rest = word_ends xs n (omega arith) (λ k lt. before (suc k) (omega arith)) (λ lt. at (omega arith)) in
    (cond-false _ _ _ e ∙ ap (λ ys. x ∷ ys) rest.0, cond-false _ _ _ e ∙ rest.1)

word_found : (xs : List ℕ) (r : Option ℕ) → IsFirstByte (is_byte 32) xs r → (front_word xs ≡ take (unwrap_or r (length xs)) xs) × (after_word xs ≡ drop (unwrap_or r (length xs)) xs)
word_found xs None none = word_ends xs (length xs) (omega arith) (λ k lt e. none k (omega arith) lt (eq-eqb _ _ e)) (λ lt. absurd (omega arith))
word_found xs (Some n) at = word_ends xs n (omega (arith, at.0.high)) (λ k lt e. at.0.before k (omega arith) lt (eq-eqb _ _ e)) (λ lt. eqb-true _ _ at.1)

-- what is cut at the first space is the first word and what stands behind it
pub word_split : (line xs word behind : List ℕ) (r : Option ℕ) (n : ℕ) → xs ≡ unspaced line → 0 < length xs → IsFirstByte (is_byte 32) xs r → n ≡ unwrap_or r (length xs) → word ≡ take n xs → behind ≡ drop n xs → SplitsWord line word behind
word_split line xs word behind r n start some found place front back =
    let ends = word_found xs r found in
    let word_is : word ≡ front_word xs = front ∙ ap (λ k. take k xs) place ∙ sym ends.0 in
    let behind_is : behind ≡ after_word xs = back ∙ ap (λ k. drop k xs) place ∙ sym ends.1 in
    record {
      word_is = word_is ∙ ap front_word start;
      behind_is = behind_is ∙ ap after_word start;
      words_are = words_split line xs (sym start) some ∙ ap (λ w. w ∷ words (after_word xs)) (sym word_is) ∙ ap (λ b. word ∷ words b) (sym behind_is);
    }

words_first_at : (xs ys w : List ℕ) (ws : List (List ℕ)) → unspaced xs ≡ ys → words xs ≡ w ∷ ws → front_word ys ≡ w
words_first_at xs [] w ws start is = let none : words xs ≡ [] = words-unspaced xs ∙ ap words start in cc
words_first_at xs (b ∷ bs) w ws start is =
    let split : words xs ≡ front_word (b ∷ bs) ∷ words (after_word (b ∷ bs)) = words_split xs (b ∷ bs) start (omega arith) in
    cc

-- the first of a line's words is its first word
pub words_first : (line w : List ℕ) (ws : List (List ℕ)) → words line ≡ w ∷ ws → front_word (unspaced line) ≡ w
words_first line w ws e = words_first_at line (unspaced line) w ws refl e

-- a word and what stands behind it, where no space stands first
pub words-run : (bytes : List ℕ) (n : ℕ) → 0 < n → n ≤ length bytes → ((k : ℕ) → k < n → get_or bytes k 0 ≢ 32) → (n < length bytes → get_or bytes n 0 ≡ 32) → words bytes ≡ take n bytes ∷ words (drop n bytes)
words-run [] n some within none ends = absurd (omega arith)
words-run (b ∷ bs) n some within none ends =
    let cut = word_ends (b ∷ bs) n within none ends in
    words-start b bs (ne_eqb b 32 (none 0 some)) ∙ ap (λ w. w ∷ words (after_word (b ∷ bs))) cut.0 ∙ ap (λ rest. take n (b ∷ bs) ∷ words rest) cut.1

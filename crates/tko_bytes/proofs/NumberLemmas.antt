-- Decimal numbers, read digit by digit.
use Rattle.std.proofs.Common.{◌≡◌, ℕ, ◌+◌, ◌-◌, ◌*◌, ◌^◌, ◌<◌, ◌≤◌, Bool, true, false, ◌&&◌, cond, List, [], ◌∷◌, Some, None, length, take, get_or, refl, sym, ap, ◌∙◌, inl, inr, arith, rules}
use Rattle.std.specs.Bool.{then_some}
use Rattle.std.specs.Char.{digit_value, is_ascii_digit}
use Rattle.std.specs.Fmt.{decimal}
use Rattle.std.specs.List.{list_all}
use Rattle.std.specs.Prelude.{nat_le}
use Rattle.std.specs.Str.Parse.{digits_value}
use Rattle.std.proofs.lemmas.Bool.{and_parts, cond-true, cond-false, lt-ltb, leb-true, le-leb, lt-leb, cases_lt}
use Rattle.std.proofs.lemmas.Bool.Decides.{nat_tests}
use Rattle.std.proofs.lemmas.Fmt.{decimal_is_IsNumeral}
use Rattle.std.proofs.lemmas.Int.Digits.{digits_value_more}
use Rattle.std.proofs.lemmas.List.Folds.{list_all_at, list_all_more}
use Rattle.std.proofs.lemmas.Str.Parse.{IsNumeralModel, digits_value-take-le, numerals_by_value}
use Rattle.tko_bytes.specs.Numbers.{is_decimal, number_of}

-- these are words of digits
abbrev pub AreDigits : List ℕ → Type 0
AreDigits word = list_all is_ascii_digit word ≡ true

own : IsNumeralModel AreDigits (digits_value 10)
own = numerals_by_value AreDigits (search rules)

-- the number of a word of digits
number_of-digits : (most : ℕ) (word : List ℕ) → AreDigits word → 0 < length word
    → number_of most word ≡ cond (nat_le (digits_value 10 word) most) (Some (digits_value 10 word)) None
unfolding number_of
number_of-digits most word digits some = rw (lt-ltb 0 (length word) some, digits) refl

and_false : (b : Bool) → b && false ≡ false
and_false true = refl
and_false false = refl

number_of-other : (most : ℕ) (word : List ℕ) → list_all is_ascii_digit word ≡ false → None ≡ number_of most word
unfolding number_of
number_of-other most word other = rw (other, and_false) refl

-- a byte of it is no digit
pub number_of-undecimal : (most : ℕ) (word : List ℕ) (i : ℕ) → i < length word → is_ascii_digit (get_or word i 0) ≡ false
    → None ≡ number_of most word
number_of-undecimal most word i inside other = number_of-other most word (list_all_at is_ascii_digit word i 0 inside other)

number_of-empty : (most : ℕ) (word : List ℕ) → length word ≤ 0 → number_of most word ≡ None
unfolding number_of
number_of-empty most [] e = refl
number_of-empty most (b ∷ bs) e = absurd (omega arith)

number_of-above : (most : ℕ) (word : List ℕ) → AreDigits word → 0 < length word → most < digits_value 10 word
    → number_of most word ≡ None
number_of-above most word digits some above =
    number_of-digits most word digits some ∙ cond-false _ _ _ (lt-leb (digits_value 10 word) most above)

number_of-within : (most : ℕ) (word : List ℕ) → AreDigits word → 0 < length word → digits_value 10 word ≤ most
    → number_of most word ≡ Some (digits_value 10 word)
number_of-within most word digits some within =
    number_of-digits most word digits some ∙ cond-true _ _ _ (le-leb (digits_value 10 word) most within)

pub number_of-none : (most : ℕ) (word : List ℕ) → length word ≡ 0 → None ≡ number_of most word
number_of-none most word none = sym (number_of-empty most word (omega (arith, none)))

-- a word whose digits, or those at its front, are worth more than may be
pub number_of-large : (most : ℕ) (word : List ℕ) (i : ℕ) → most < digits_value 10 (take i word) → None ≡ number_of most word
unfolding number_of
number_of-large most word i large =
    let all = digits_value-take-le 10 word i (omega arith) in
    rw (lt-leb (digits_value 10 word) most (omega (arith, all, large)), and_false) refl

-- one digit more
pub value_more : (word : List ℕ) (i value : ℕ) → i < length word → is_ascii_digit (get_or word i 0) ≡ true
    → value ≡ digits_value 10 (take i word) → digits_value 10 (take (i + 1) word) ≡ value * 10 + (get_or word i 0 - 48)
value_more word i value inside digit is =
    let worth : digit_value (get_or word i 0) ≡ get_or word i 0 - 48 = grind (arith, nat_tests) in
    rw (digits_value_more 10 word i inside, worth, is) refl

pub digits_more : (word : List ℕ) (i : ℕ) → i < length word → is_ascii_digit (get_or word i 0) ≡ true
    → AreDigits (take i word) → AreDigits (take (i + 1) word)
digits_more word i inside digit digits = list_all_more is_ascii_digit word i 0 inside ∙ rw (digits, digit) refl

-- a word of digits that is read
pub number_read : (most : ℕ) (word : List ℕ) (value : ℕ) → AreDigits word
    → 0 < length word → value ≡ digits_value 10 word → then_some (nat_le value most) value ≡ number_of most word
number_read most word value digits some is = elim (cases_lt most value) [
  | inl above ↦
      ap (λ b. then_some b value) (lt-leb value most above)
      ∙ sym (number_of-above most word digits some (omega arith))
  | inr within ↦
      ap (λ b. then_some b value) (le-leb value most within) ∙ ap (λ n. Some n) is
      ∙ sym (number_of-within most word digits some (omega arith))
]

-- a number that is read is at most what it may be
pub number_of-le : (most : ℕ) (word : List ℕ) (n : ℕ) → number_of most word ≡ Some n → n ≤ most
unfolding number_of
number_of-le most word n is = by_test (is_decimal word && nat_le (digits_value 10 word) most) refl is
  where
    by_test : (t : Bool) → is_decimal word && nat_le (digits_value 10 word) most ≡ t
        → cond t (Some (digits_value 10 word)) None ≡ Some n → n ≤ most
    by_test true test e =
        let same : digits_value 10 word ≡ n = cc in
        let parts = and_parts (is_decimal word) (nat_le (digits_value 10 word) most) test in
        omega (arith, leb-true _ most parts.1)
    by_test false test e = absurd (cc)

-- a printed number is read as that number
pub number_of-decimal : (most n : ℕ) → n < 2 ^ 64 → n ≤ most → number_of most (decimal n) ≡ Some n
number_of-decimal most n bound few =
    let is = decimal_is_IsNumeral n bound in
    number_of-within most (decimal n) (own.from (decimal n) is.0.1) is.0.0 (omega (arith, is.1))
    ∙ ap (λ k. Some k) is.1

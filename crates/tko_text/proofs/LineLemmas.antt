-- The keys of a line.
use Rattle.std.proofs.Common.{◌≡◌, ℕ, ◌<◌, Bool, true, false, ◌&&◌, List, [], ◌∷◌, ◌++◌, length, refl, ap, sym, ◌∙◌, length-append, arith, Result, Ok, Err}
use Rattle.std.specs.List.{list_all}
use Rattle.std.proofs.lemmas.Bool.{cond-true, cond-false}
use Rattle.tko_text.specs.declared.fault.TextFault.{TextFault}
use Rattle.tko_text.specs.declared.fault.TextFault.TheVariants.{BadKey, BadLine}
use Rattle.tko_text.specs.Commands.{keys_of}
use Rattle.tko_text.specs.Keys.{is_key}

and_false : (b : Bool) → b && false ≡ false
and_false true = refl
and_false false = refl

and_true : (b : Bool) → b && true ≡ b
and_true true = refl
and_true false = refl

and_assoc : (a b c : Bool) → (a && b) && c ≡ a && (b && c)
and_assoc true b c = refl
and_assoc false b c = refl

all_append : (xs ys : List (List ℕ)) → list_all is_key (xs ++ ys) ≡ list_all is_key xs && list_all is_key ys
all_append [] ys = refl
all_append (x ∷ xs) ys =
    ap (λ b. is_key x && b) (all_append xs ys) ∙ sym (and_assoc (is_key x) (list_all is_key xs) (list_all is_key ys))

-- one key more
pub keys_push : (xs : List (List ℕ)) (x y : List ℕ) → list_all is_key xs ≡ true → true ≡ is_key y → x ≡ y → list_all is_key (xs ++ x ∷ []) ≡ true
keys_push xs x y all is same =
    all_append xs (x ∷ []) ∙ rw (all, same, sym is) refl

keys_some : (words : List (List ℕ)) → 0 < length words → (t : Bool) → list_all is_key words ≡ t
    → keys_of words ≡ elim t as (λ _. Result (List (List ℕ)) TextFault) [ true ↦ Ok words | false ↦ Err BadKey ]
keys_some [] some t e = absurd (omega arith)
keys_some (w ∷ words) some true e = cond-true _ _ _ e
keys_some (w ∷ words) some false e = cond-false _ _ _ e

-- all words are keys
pub keys_all : (words keys : List (List ℕ)) → keys ≡ words → list_all is_key keys ≡ true → 0 < length keys → keys_of words ≡ Ok keys
keys_all words keys same all some =
    keys_some words (omega (arith, ap length same)) true (ap (list_all is_key) (sym same) ∙ all) ∙ ap (λ k. Ok k) (sym same)

-- a word is no key
pub keys_bad : (words keys rest : List (List ℕ)) (word : List ℕ) → keys ++ word ∷ rest ≡ words → false ≡ is_key word → keys_of words ≡ Err BadKey
keys_bad words keys rest word parts bad =
    keys_some words (omega (arith, ap length parts, length-append keys (word ∷ rest))) false
    (ap (list_all is_key) (sym parts) ∙ all_append keys (word ∷ rest)
    ∙ ap (λ b. list_all is_key keys && (b && list_all is_key rest)) (sym bad) ∙ and_false (list_all is_key keys))

pub keys_none : (words keys : List (List ℕ)) → keys ≡ words → length keys ≡ 0 → keys_of words ≡ Err BadLine
keys_none [] keys same none = refl
keys_none (w ∷ words) keys same none = absurd (omega (arith, ap length same))

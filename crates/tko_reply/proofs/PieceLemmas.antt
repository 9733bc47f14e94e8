-- The front and the rest of bytes that lie in three pieces.
use Rattle.std.proofs.Common.{◌≡◌, ℕ, ◌-◌, ◌+◌, List, ◌++◌, length, length-append, take, drop, refl}
use Rattle.std.proofs.Common.{sym, ap, ◌∙◌, append-nil, inl, inr, arith}
use Rattle.std.proofs.lemmas.Bool.{cases_lt}
use Rattle.std.proofs.lemmas.List.{drop-append-le, drop-drop, drop_all, drop_at, take-append-le}
use Rattle.std.proofs.lemmas.List.{take_all}
use Rattle.std.proofs.Math.Seq.{take-append-add}

pub take_two : (n : ℕ) (xs ys : List ℕ) → take n (xs ++ ys) ≡ take n xs ++ take (n - length xs) ys
take_two n xs ys = elim (cases_lt n (length xs)) [
  | inl few ↦
      let none : n - length xs ≡ 0 = omega (arith, few) in
      take-append-le n xs ys (omega (arith, few)) ∙ sym (append-nil (take n xs))
      ∙ ap (λ k. take n xs ++ take k ys) (sym none)
  | inr many ↦
      let sum : n ≡ length xs + (n - length xs) = omega (arith, many) in
      ap (λ k. take k (xs ++ ys)) sum ∙ take-append-add xs ys (n - length xs)
      ∙ ap (λ zs. zs ++ take (n - length xs) ys) (sym (take_all n xs many))
]

drop_two : (n : ℕ) (xs ys : List ℕ) → drop n (xs ++ ys) ≡ drop n xs ++ drop (n - length xs) ys
drop_two n xs ys = elim (cases_lt n (length xs)) [
  | inl few ↦
      let none : n - length xs ≡ 0 = omega (arith, few) in
      drop-append-le n xs ys (omega (arith, few)) ∙ ap (λ k. drop n xs ++ drop k ys) (sym none)
  | inr many ↦
      let sum : n ≡ length xs + (n - length xs) = omega (arith, many) in
      ap (λ k. drop k (xs ++ ys)) sum ∙ sym (drop-drop (n - length xs) (length xs) (xs ++ ys))
      ∙ ap (drop (n - length xs)) (drop_at xs ys (length xs) refl)
      ∙ ap (λ zs. zs ++ drop (n - length xs) ys) (sym (drop_all n xs many))
]

-- how many of the bytes are in the third piece
pub take_three : (n of_second of_third : ℕ) (xs ys zs : List ℕ) → of_second ≡ n - length xs
    → of_third ≡ of_second - length ys
    → take n xs ++ take of_second ys ++ take of_third zs ≡ take n (xs ++ ys ++ zs)
take_three n of_second of_third xs ys zs second third =
    let count : of_third ≡ n - length (xs ++ ys) =
    omega (arith, second, third, length-append xs ys) in
    ap (λ k. take n xs ++ take k ys ++ take of_third zs) second
    ∙ ap (λ vs. vs ++ take of_third zs) (sym (take_two n xs ys))
    ∙ ap (λ k. take n (xs ++ ys) ++ take k zs) count ∙ sym (take_two n (xs ++ ys) zs)

pub drop_three : (n of_second of_third : ℕ) (xs ys zs : List ℕ) → of_second ≡ n - length xs
    → of_third ≡ of_second - length ys
    → drop n xs ++ drop of_second ys ++ drop of_third zs ≡ drop n (xs ++ ys ++ zs)
drop_three n of_second of_third xs ys zs second third =
    let count : of_third ≡ n - length (xs ++ ys) =
    omega (arith, second, third, length-append xs ys) in
    ap (λ k. drop n xs ++ drop k ys ++ drop of_third zs) second
    ∙ ap (λ vs. vs ++ drop of_third zs) (sym (drop_two n xs ys))
    ∙ ap (λ k. drop n (xs ++ ys) ++ drop k zs) count ∙ sym (drop_two n (xs ++ ys) zs)

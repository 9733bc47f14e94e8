-- Laws of lists that are moved piece by piece.
use Rattle.std.proofs.Common.{◌≡◌, ℕ, ◌+◌, ◌-◌, List, ◌++◌, length, take, drop, sym, ap, ◌∙◌, arith, length-drop}
use Rattle.std.proofs.Math.Seq.{take-add}
use Rattle.std.proofs.lemmas.List.{take_all, take_at, take-append-drop, drop-drop}

-- the front, and then the front of what is behind it
pub take-next : (xs : List ℕ) (n more : ℕ) → take (n + more) xs ≡ take n xs ++ take more (take (length xs - n) (drop n xs))
take-next xs n more =
    take-add n more xs
    ∙ ap (λ rest. take n xs ++ take more rest) (sym (take_all (length xs - n) (drop n xs) (omega (arith, length-drop n xs))))

-- bytes that were copied from a place on are the front of what is left there
pub left-front : (items copied buffer : List ℕ) (at n : ℕ) → copied ≡ take n (take (length items - at) (drop at items))
    → length copied ≡ n → drop at items ≡ take n (copied ++ buffer) ++ drop (at + n) items
left-front items copied buffer at n is len =
    let rest = drop at items in
    let front = take_at copied buffer n len ∙ is ∙ ap (take n) (take_all (length items - at) rest (omega (arith, length-drop at items))) in
    sym (ap (λ xs. xs ++ drop (at + n) items) front
    ∙ ap (λ xs. take n rest ++ xs) (sym (drop-drop n at items)) ∙ take-append-drop n rest)

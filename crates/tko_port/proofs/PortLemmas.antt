-- Bytes that are read and written.
use Rattle.std.proofs.Common.{arith, ◌≡◌, ◌≢◌, ℕ, ◌+◌, List, [], ◌∷◌, ◌++◌, Bool, true, false, refl, sym, ap, ◌∙◌, length, take, drop, length-append}
use Rattle.std.specs.Prelude.{◌<◌, not}
use Rattle.std.specs.Bool.{OnTrue}
use Rattle.std.proofs.lemmas.List.{drop-take, take-append-drop, take-append-le, take_all, take-take}
use Rattle.tko_port.specs.Ports.{IsFilled, PortState}

-- a text whose front is not empty
pub has_some : (empty : Bool) (front rest output : List ℕ) → (empty ≡ false → front ≢ [])
    → output ≡ front ++ rest → OnTrue (not empty) (output ≢ [])
has_some true front rest output some is = tt
has_some false [] rest output some is = absurd (some refl refl)
has_some false (byte ∷ bytes) rest output some is = λ e.
    let none : byte ∷ (bytes ++ rest) ≡ [] = sym is ∙ e in absurd (let f : ⊥ = cc none in f)

-- what follows the bytes that were read before
pub take_add : (at count : ℕ) (xs : List ℕ)
    → take (at + count) xs ≡ take at xs ++ take count (drop at xs)
take_add at count xs =
    let front : take at (take (at + count) xs) ≡ take at xs =
    take-take at (at + count) xs (omega arith) in
    sym (take-append-drop at (take (at + count) xs))
    ∙ ap (λ (w : List ℕ). w ++ drop at (take (at + count) xs)) front
    ∙ ap (λ (w : List ℕ). take at xs ++ w) (drop-take at count xs)

-- bytes of the input that were put at the front of a buffer
pub filled : (port : PortState) (at count : ℕ) (input copied rest : List ℕ)
    → port.readable ≡ true → port.read ≡ take at input
    → copied ≡ take count (drop at input) → length copied ≡ count → 0 < count
    → IsFilled port (copied ++ rest) count (record port { read = take (at + count) input })
filled port at count input copied rest readable is_read is_copied len some =
    let front : take count (copied ++ rest) ≡ copied =
    take-append-le count copied rest (omega (arith, len))
    ∙ take_all count copied (omega (arith, len)) in
    let all : take (at + count) input ≡ port.read ++ take count (copied ++ rest) =
    take_add at count input ∙ ap (λ (w : List ℕ). w ++ take count (drop at input)) (sym is_read)
    ∙ ap (λ (w : List ℕ). port.read ++ w) (sym (front ∙ is_copied)) in
    record {
      some = some;
      within = omega (arith, len, length-append copied rest);
      state = ap (λ (w : List ℕ). record port { read = w }) all;
      whole = λ e. readable;
    }

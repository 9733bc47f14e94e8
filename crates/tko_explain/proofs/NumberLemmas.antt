-- Places in lists of addresses.
use Rattle.std.proofs.Common.{◌≡◌, List, map, refl, sym}
use Rattle.std.specs.Prelude.{ℕ, length, unwrap_or}
use Rattle.std.specs.Str.{bytes_eq}
use Rattle.tko_explain.specs.Moves.{place_named}
use Rattle.tko_pools.specs.Numbering.{number_in}
use Rattle.tko_pools.proofs.NumberingLemmas.{position_map}
use Rattle.std.specs.List.{position}
use Rattle.std.proofs.lemmas.List.{length-map}

-- the number of an address among texts
pub number_in_texts : {A : Type 0} (f : A → List ℕ) (xs : List A) (text : List ℕ)
    → number_in (map f xs) text ≡ unwrap_or (position (λ x. bytes_eq text (f x)) xs) (length xs)
number_in_texts f xs text = rw (position_map (bytes_eq text) f xs, length-map xs f) refl

-- the place of the first text that is this one
pub place_in_texts : {A : Type 0} (f : A → List ℕ) (xs : List A) (text : List ℕ)
    → position (λ x. bytes_eq text (f x)) xs ≡ place_named (map f xs) text
unfolding place_named
place_in_texts f xs text = sym (position_map (bytes_eq text) f xs)

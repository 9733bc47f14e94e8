-- The keys that were begun where one more is, or where one of them came further: the others stay.
use Rattle.std.proofs.Common.{◌≡◌, ◌≢◌, ◌<◌, ◌≤◌, ℕ, zero, suc, Bool, true, false, List, [], ◌∷◌}
use Rattle.std.proofs.Common.{◌++◌, length, length-append, Some, refl, sym, ap, ◌∙◌, arith}
use Rattle.std.proofs.Common.{true≢false}
use Rattle.std.specs.Prelude.{slice_get, slice_index_or, slice_set}
use Rattle.std.specs.List.{prefix_len}
use Rattle.std.proofs.lemmas.List.{length-set}
use Rattle.std.proofs.lemmas.List.Sums.{prefix_len-le-length, prefix_len_passes}
use Rattle.std.proofs.lemmas.Option.{get_or_from_slice_get, none-some, slice_get-get_or}
use Rattle.std.proofs.lemmas.Option.{slice_get_within}
use Rattle.tko_roster.proofs.SlotLemmas.{get_set_other, get_set_same}
use Rattle.tko_keys.proofs.AheadLemmas.{ahead_at_least}

pub get_front : {X : Type 0} (xs ys : List X) (i : ℕ) (x : X) → slice_get xs i ≡ Some x
    → slice_get (xs ++ ys) i ≡ Some x
get_front [] ys i x is = absurd (none-some x is)
get_front (y ∷ xs) ys zero x is = is
get_front (y ∷ xs) ys (suc i) x is = get_front xs ys i x is

pub get_end : {X : Type 0} (xs : List X) (x : X) → slice_get (xs ++ x ∷ []) (length xs) ≡ Some x
get_end [] x = refl
get_end (y ∷ xs) x = get_end xs x

pub get_not_end : {X : Type 0} (xs : List X) (x : X) (i : ℕ) → i ≢ length xs
    → slice_get (xs ++ x ∷ []) i ≡ slice_get xs i
get_not_end [] x zero apart = absurd (apart refl)
get_not_end [] x (suc i) apart = refl
get_not_end (y ∷ xs) x zero apart = refl
get_not_end (y ∷ xs) x (suc i) apart = get_not_end xs x i (λ e. apart (ap suc e))

-- at this place stands another element or a new one, and all others stay
pub record IsChanged {X : Type 0} (old : List X) (place : ℕ) (now : X) (new : List X) : Type 0 where
  pub at : slice_get new place ≡ Some now
  pub others : (other : ℕ) → other ≢ place → slice_get new other ≡ slice_get old other

pub pushed : {X : Type 0} (xs : List X) (x : X) → IsChanged xs (length xs) x (xs ++ x ∷ [])
pushed xs x = record { at = get_end xs x; others = λ other apart. get_not_end xs x other apart }

pub replaced : {X : Type 0} (xs : List X) (place : ℕ) (was now : X) → slice_get xs place ≡ Some was
    → IsChanged xs place now (slice_set xs place now)
replaced xs place was now at = record {
  at = get_set_same xs place now (slice_get_within xs place was at);
  others = λ other apart. get_set_other xs place other now apart;
}

module _ {X : Type 0} (p : X → Bool) where
  -- as many pass where one more is there
  pub ahead_pushed : (xs : List X) (x : X) → prefix_len p xs ≤ prefix_len p (xs ++ x ∷ [])
  ahead_pushed xs x =
      ahead_at_least p (xs ++ x ∷ []) (prefix_len p xs) x
      (omega (arith, prefix_len-le-length p xs, length-append xs (x ∷ [])))
      (λ k below.
      let within : k < length xs = omega (arith, below, prefix_len-le-length p xs) in
      let at = get_front xs (x ∷ []) k (slice_index_or xs k x) (slice_get-get_or xs k x within) in
      ap p (get_or_from_slice_get (xs ++ x ∷ []) k (slice_index_or xs k x) x at)
      ∙ prefix_len_passes p xs k x below)

  -- and where one that did not pass is another
  pub ahead_replaced : (xs : List X) (place : ℕ) (was now : X) → slice_get xs place ≡ Some was
      → p was ≡ false
      → prefix_len p xs ≤ prefix_len p (slice_set xs place now)
  ahead_replaced xs place was now at fails =
      ahead_at_least p (slice_set xs place now) (prefix_len p xs) now
      (omega (arith, prefix_len-le-length p xs, length-set xs place now))
      (λ k below.
      let passes : p (slice_index_or xs k now) ≡ true = prefix_len_passes p xs k now below in
      let within : k < length xs = omega (arith, below, prefix_len-le-length p xs) in
      let apart : k ≢ place = λ e. true≢false
      (sym passes ∙ ap (λ n. p (slice_index_or xs n now)) e
      ∙ ap p (get_or_from_slice_get xs place was now at) ∙ fails) in
      let same = get_set_other xs place k now apart ∙ slice_get-get_or xs k now within in
      ap p (get_or_from_slice_get (slice_set xs place now) k (slice_index_or xs k now) now same)
      ∙ passes)

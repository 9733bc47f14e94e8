-- Facts on all that a pool returned.
use Rattle.std.proofs.Common.{◌≡◌, ℕ, ◌<◌, List, All, [], ◌∷◌, arith, length, slice_index_or}

-- what is known of each by its place, beside any member
pub all_of_places : {M E : Type 0} (P : E → Type 0) (members : List M) (ended : List E) → length ended ≡ length members
    → ((place : ℕ) (member : M) (one : E) → place < length ended → P (slice_index_or ended place one)) → All P ended
all_of_places P [] ended same each = λ place one within. absurd (omega (arith, within, same))
all_of_places P (member ∷ members) ended same each = λ place one within. each place member one within

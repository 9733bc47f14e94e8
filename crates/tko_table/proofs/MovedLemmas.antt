-- The passes of one seat go to another: what that makes of a list of all.
use Rattle.std.proofs.Common.{◌≡◌, ℕ, zero, suc, List, [], ◌∷◌, ◌++◌, set, refl, sym, ap, subst}
use Rattle.std.specs.List.Sorted.{IsPermutation}
use Rattle.std.proofs.lemmas.List.{append_assoc}
use Rattle.std.proofs.lemmas.List.Sorted.{IsPermutation-append_comm, IsPermutation-append_left}
use Rattle.std.proofs.lemmas.List.Sorted.{IsPermutation-append_right, IsPermutation-refl}
use Rattle.std.proofs.lemmas.List.Sorted.{IsPermutation-trans}
use mathlib.Core.Option.{some, some-injective, some-ne-none}
use lib.ListN.{get_elem?}
use Rattle.tko_table.specs.declared.pass.PassView.{PassView}
use Rattle.tko_table.specs.Rule.{joined_passes}

-- lists in another order, where two of three change places
swapped : (one two three : List PassView)
    → IsPermutation (one ++ (two ++ three)) (two ++ (one ++ three))
swapped one two three =
    let P : List PassView → Type 0 = λ it. IsPermutation it (two ++ (one ++ three)) in
    let Q : List PassView → Type 0 = λ it. IsPermutation ((one ++ two) ++ three) it in
    subst P (append_assoc one two three)
    (subst Q (append_assoc two one three)
    (IsPermutation-append_left three (one ++ two) (two ++ one) (IsPermutation-append_comm one two)))

pub taken-out : (views : List (List PassView)) (other : ℕ) (view : List PassView)
    → get_elem? views other ≡ some view
    → IsPermutation (joined_passes views) (view ++ joined_passes (set views other []))
taken-out [] other view e = absurd (some-ne-none view (sym e))
taken-out (first ∷ views) zero view e =
    let same : first ≡ view = some-injective first view e in
    subst (λ it. IsPermutation (it ++ joined_passes views) (view ++ joined_passes views)) (sym same)
    (IsPermutation-refl (view ++ joined_passes views))
taken-out (first ∷ views) (suc other) view e =
    let rest = joined_passes (set views other []) in
    IsPermutation-trans (first ++ joined_passes views) (first ++ (view ++ rest))
    (view ++ (first ++ rest))
    (IsPermutation-append_right first (joined_passes views) (view ++ rest)
    (taken-out views other view e))
    (swapped first view rest)

put-in : (views : List (List PassView)) (id : ℕ) (view more : List PassView)
    → get_elem? views id ≡ some view
    → IsPermutation (more ++ joined_passes views) (joined_passes (set views id (view ++ more)))
put-in [] id view more e = absurd (some-ne-none view (sym e))
put-in (first ∷ views) zero view more e =
    let same : first ≡ view = some-injective first view e in
    let P : List PassView → Type 0 =
    λ it. IsPermutation (more ++ (view ++ joined_passes views)) it in
    subst (λ it. IsPermutation (more ++ (it ++ joined_passes views))
    ((view ++ more) ++ joined_passes views)) (sym same)
    (subst P (sym (append_assoc view more (joined_passes views)))
    (swapped more view (joined_passes views)))
put-in (first ∷ views) (suc id) view more e =
    let rest = joined_passes (set views id (view ++ more)) in
    IsPermutation-trans (more ++ (first ++ joined_passes views))
    (first ++ (more ++ joined_passes views)) (first ++ rest)
    (swapped more first (joined_passes views))
    (IsPermutation-append_right first (more ++ joined_passes views) rest
    (put-in views id view more e))

pub moved : (views : List (List PassView)) (id other : ℕ) (view more : List PassView)
    → get_elem? views id ≡ some view → get_elem? views other ≡ some more
    → (other ≡ id → ⊥) → IsPermutation (joined_passes views)
    (joined_passes (set (set views id (view ++ more)) other []))
moved [] id other view more e f apart = absurd (some-ne-none view (sym e))
moved (first ∷ views) zero zero view more e f apart = absurd (apart refl)
moved (first ∷ views) zero (suc other) view more e f apart =
    let same : first ≡ view = some-injective first view e in
    let rest = joined_passes (set views other []) in
    let P : List PassView → Type 0 = λ it. IsPermutation (view ++ joined_passes views) it in
    subst (λ it. IsPermutation (it ++ joined_passes views) ((view ++ more) ++ rest)) (sym same)
    (subst P (sym (append_assoc view more rest)) (IsPermutation-append_right view
    (joined_passes views) (more ++ rest) (taken-out views other more f)))
moved (first ∷ views) (suc id) zero view more e f apart =
    let same : first ≡ more = some-injective first more f in
    subst (λ it. IsPermutation (it ++ joined_passes views)
    (joined_passes (set views id (view ++ more)))) (sym same) (put-in views id view more e)
moved (first ∷ views) (suc id) (suc other) view more e f apart =
    IsPermutation-append_right first (joined_passes views)
    (joined_passes (set (set views id (view ++ more)) other []))
    (moved views id other view more e f (λ same. apart (ap suc same)))

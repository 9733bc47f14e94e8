-- A map of names, as what is stored under each.
use Rattle.std.proofs.Common.{◌≡◌, ◌≢◌, ◌∙◌, ℕ, Bool, true, false, List, refl, sym}
use Rattle.std.specs.Str.{bytes_eq}
use Rattle.std.specs.Map.{KeepsOthers, lookup}
use Rattle.std.specs.Cmp.Lexicographic.{bytes_decides, nat_list_eq_equiv}

not_equal : (other key : List ℕ) (test : Bool) → (test ≡ true → other ≡ key) → other ≢ key → test ≡ false
not_equal other key false same apart = refl
not_equal other key true same apart = absurd (apart (same refl))

-- a change under one name leaves what is found under another
pub others_kept : {N X : Type 0} (items : N → List ℕ) (old new : List (N × X)) (name key other : List ℕ)
    → name ≡ key → other ≢ key
    → KeepsOthers (λ x y. bytes_eq (items x) (items y)) (λ y. bytes_eq name (items y)) old new
    → lookup (λ y. bytes_eq other (items y)) new ≡ lookup (λ y. bytes_eq other (items y)) old
unfolding KeepsOthers
others_kept items old new name key other is apart keeps =
    keeps (λ y. bytes_eq other (items y))
    (λ x y found. nat_list_eq_equiv.congr other (items x) (items y) found)
    (λ it found. not_equal other key (bytes_eq other (items it))
    (λ same. (bytes_decides other (items it)).0 same ∙ sym ((bytes_decides name (items it)).0 found) ∙ is) apart)

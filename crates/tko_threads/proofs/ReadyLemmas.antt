-- Members of a pool that are ready.
use Rattle.std.proofs.Common.{◌≡◌, ℕ, List, All, [], ◌∷◌, ◌++◌, subst, sym}
use Rattle.std.proofs.lemmas.List.Elements.{All-push}
use Rattle.tko_threads.specs.declared.pooling.Member.{Member}
use Rattle.tko_threads.specs.Workers.{AreMembersReady, IsEquipped, IsMemberReady}

-- what is a seating's own is that of an equal one
pub own_there : {S P : Type 0} (own : S → P → Type 0) (one other : S) (idle : P) → one ≡ other
    → own other idle → own one idle
own_there {S} {P} own one other idle same is =
    let Q : S → Type 0 = λ s. own s idle in subst Q (sym same) is

-- one member more
pub one_more_ready : {C P S L M : Type 0} (own : S → P → Type 0) (seated : S → ℕ) (linked : L → ℕ)
    (before after : List (Member C P S L M)) (member : Member C P S L M)
    → after ≡ before ++ member ∷ [] → AreMembersReady own seated linked before
    → own member.parts.seating.now member.idle → IsEquipped seated linked member.parts
    → AreMembersReady own seated linked after
one_more_ready {C} {P} {S} {L} {M} own seated linked before after member pushed ready seat equipped =
    let R : Member C P S L M → Type 0 = λ m. IsMemberReady own seated linked m in
    let one : R member = record { seat = seat; equipped = equipped } in
    subst (All R) (sym pushed) (All-push R before member ready one)

-- The passes of all seats in one list: where a seat's pass stands in it, and the list once that
-- pass has changed.
use Rattle.std.proofs.Common.{count_by, ltb, ◌≡◌, ℕ, ◌<◌, cond, List, [], ◌∷◌, ◌++◌, length, get_or}
use Rattle.std.proofs.Common.{set, All, Some, refl, sym, ap, ◌∙◌, subst, ⊎_elim, arith, length-set}
use Rattle.std.proofs.Common.{get_or-set_same, get_or-set_other, zero, suc}
use Rattle.std.proofs.lemmas.Bool.{cases_eq}
use Rattle.std.proofs.lemmas.List.{get_or-map, length-map}
use Rattle.std.proofs.lemmas.List.Elements.{All-from_get_or}
use mathlib.Core.Option.{some, some-injective, some-ne-none}
use lib.ListN.{get_elem?}
use Rattle.tko_steps.specs.declared.phase.ThreadState.TheVariants.{NotEnrolled}
use Rattle.tko_steps.specs.Core.{drawn_number}
use Rattle.tko_steps.specs.Owners.{has_number}
use Rattle.tko_steps.proofs.ThreadLemmas.{number-once}
use Rattle.tko_table.specs.declared.pass.PassView.{PassView}
use Rattle.tko_table.specs.Rule.{joined_passes, states_of}

-- one of these passes, and the list with another one in its place
pub record IsOneOf (passes : List PassView) (old : PassView)
    (with_new : PassView → List PassView) : Type 0 where
  pub place : ℕ
  pub inside : place < length passes
  pub at : (d : PassView) → get_or passes place d ≡ old
  pub sets : (new : PassView) → with_new new ≡ set passes place new

one-head : (old : PassView) (passes : List PassView)
    → IsOneOf (old ∷ passes) old (λ new. new ∷ passes)
one-head old passes =
    record { place = zero; inside = omega arith; at = λ d. refl; sets = λ new. refl }

one-cons : (first : PassView) (passes : List PassView) (old : PassView)
    (with_new : PassView → List PassView) → IsOneOf passes old with_new
    → IsOneOf (first ∷ passes) old (λ new. first ∷ with_new new)
one-cons first passes old with_new one =
    record {
      place = suc one.place;
      inside = omega (arith, one.inside);
      at = one.at;
      sets = λ new. ap (λ it. first ∷ it) (one.sets new);
    }

one-append : (view passes : List PassView) (old : PassView) (with_new : PassView → List PassView)
    → IsOneOf passes old with_new
    → IsOneOf (view ++ passes) old (λ new. view ++ with_new new)
one-append [] passes old with_new one = one
one-append (first ∷ view) passes old with_new one =
    one-cons first (view ++ passes) old (λ new. view ++ with_new new)
    (one-append view passes old with_new one)

one-within : (before after passes : List PassView) (old : PassView)
    → IsOneOf ((before ++ old ∷ after) ++ passes) old (λ new. (before ++ new ∷ after) ++ passes)
one-within [] after passes old = one-head old (after ++ passes)
one-within (first ∷ before) after passes old =
    one-cons first ((before ++ old ∷ after) ++ passes) old
    (λ new. (before ++ new ∷ after) ++ passes)
    (one-within before after passes old)

-- a pass of the seat with this number
pub one-joined : (views : List (List PassView)) (id : ℕ) (before after : List PassView)
    (old : PassView)
    → get_elem? views id ≡ some (before ++ old ∷ after)
    → IsOneOf (joined_passes views) old
    (λ new. joined_passes (set views id (before ++ new ∷ after)))
one-joined [] id before after old e = absurd (some-ne-none _ (sym e))
one-joined (view ∷ views) zero before after old e =
    let is : view ≡ before ++ old ∷ after = some-injective view (before ++ old ∷ after) e in
    let P : List PassView → Type 0 = λ it. IsOneOf (it ++ joined_passes views) old
    (λ new. (before ++ new ∷ after) ++ joined_passes views) in
    subst P (sym is) (one-within before after (joined_passes views) old)
one-joined (view ∷ views) (suc id) before after old e =
    one-append view (joined_passes views) old
    (λ new. joined_passes (set views id (before ++ new ∷ after)))
    (one-joined views id before after old e)

-- a fact of each pass, where one pass has changed, and those of the others may rest on their
-- numbers
pub each-set : (P Q : PassView → Type 0) (passes : List PassView) (place number enrolled : ℕ)
    (old new : PassView) → place < length passes
    → ((d : PassView) → get_or passes place d ≡ old) → drawn_number old.state ≡ Some number
    → ((at : ℕ) → count_by (has_number at) (states_of passes) ≡ cond (ltb at enrolled) 1 0)
    → Q new → ((pass : PassView) → (drawn_number pass.state ≡ Some number → ⊥) → P pass → Q pass)
    → All P passes → All Q (set passes place new)
each-set P Q passes place number enrolled old new inside stands named each mine others all =
    let threads = states_of passes in
    let same_length : length threads ≡ length passes = length-map passes (λ pass. pass.state) in
    let state_at : (i : ℕ) → i < length passes
    → get_or threads i NotEnrolled ≡ (get_or passes i old).state =
    λ i it. get_or-map (λ pass. pass.state) passes i old NotEnrolled it in
    let mine_at : drawn_number (get_or threads place NotEnrolled) ≡ Some number =
    ap drawn_number (state_at place inside)
    ∙ ap (λ (pass : PassView). drawn_number pass.state) (stands old) ∙ named in
    All-from_get_or Q (set passes place new) old (λ i at.
    let was : i < length passes = rw length-set at at in
    ⊎_elim
    (λ (same : i ≡ place). rw (same, get_or-set_same passes place new old inside) mine)
    (λ (apart : i ≡ place → ⊥).
    rw (get_or-set_other passes place i new old apart)
    (others (get_or passes i old)
    (λ theirs. apart (number-once threads enrolled place i number each
    (omega (arith, same_length, inside)) (omega (arith, same_length, was)) mine_at
    (ap drawn_number (state_at i was) ∙ theirs)))
    (all i old was)))
    (cases_eq i place))

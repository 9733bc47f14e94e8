-- Two seats are joined: the first has the passes of both, each of which has then seen what any of
-- them had seen.
use Rattle.std.proofs.Common.{◌≡◌, ℕ, zero, suc, ◌≤◌, arith, ltb, List, [], ◌∷◌, ◌++◌, map, length}
use Rattle.std.proofs.Common.{set, All, refl, sym, ap, ◌∙◌, subst}
use Rattle.std.proofs.lemmas.Bool.{cond_both, ltb-false, ltb-true}
use Rattle.std.proofs.lemmas.List.{map-append}
use Rattle.std.proofs.lemmas.List.Elements.{All-append, All-cons, All-head, All-nil, All-tail}
use Rattle.std.proofs.lemmas.List.Elements.{All-weaker}
use mathlib.Core.Option.{some, some-injective, some-ne-none}
use lib.ListN.{get_elem?}
use Rattle.atomic_table.proofs.Lists.{set_else, set_here}
use Rattle.atomic_table.specs.Table.{Joins}
use Rattle.tko_model.specs.Settings.{Settings}
use Rattle.tko_steps.specs.Core.{drawn_number}
use Rattle.tko_steps.specs.Invariant.{IsCore}
use Rattle.tko_table.specs.declared.pass.Change.{Change}
use Rattle.tko_table.specs.declared.pass.PassView.{PassView}
use Rattle.tko_table.specs.History.{Begins}
use Rattle.tko_table.specs.Passes.{PassOwnsItsMarks, HasItsChanges, longest_seen, passes_raised}
use Rattle.tko_table.specs.Passes.{with_seen}
use Rattle.tko_table.specs.Rule.{IsKept, IsPlanned, core_in, joined_passes, shared_in, states_of}
use Rattle.tko_table.proofs.AllowsLemmas.{Rule, there-lt}
use Rattle.tko_table.proofs.ThreadChangeLemmas.{told-seen}
use Rattle.tko_table.proofs.AllowsEnrolLemmas.{All-left, All-right, seen-view}
use Rattle.tko_table.proofs.SplitLemmas.{kept-permuted}
use Rattle.tko_table.proofs.MovedLemmas.{moved}

-- ---- the passes of one seat see more

with_seen-states : (history : List Change) (passes : List PassView)
    → states_of (map (with_seen history) passes) ≡ states_of passes
with_seen-states history [] = refl
with_seen-states history (pass ∷ passes) =
    ap (λ it. pass.state ∷ it) (with_seen-states history passes)

joined-states : (views : List (List PassView)) (id : ℕ) (view : List PassView)
    (history : List Change) → get_elem? views id ≡ some view
    → states_of (joined_passes (set views id (map (with_seen history) view)))
    ≡ states_of (joined_passes views)
joined-states [] id view history e = absurd (some-ne-none view (sym e))
joined-states (first ∷ views) zero view history e =
    let same : first ≡ view = some-injective first view e in
    let state = λ (pass : PassView). pass.state in
    map-append state (map (with_seen history) view) (joined_passes views)
    ∙ ap (λ it. it ++ states_of (joined_passes views)) (with_seen-states history view)
    ∙ sym (map-append state view (joined_passes views))
    ∙ ap (λ it. states_of (it ++ joined_passes views)) (sym same)
joined-states (first ∷ views) (suc id) view history e =
    let state = λ (pass : PassView). pass.state in
    map-append state first (joined_passes (set views id (map (with_seen history) view)))
    ∙ ap (λ it. map state first ++ it) (joined-states views id view history e)
    ∙ sym (map-append state first (joined_passes views))

-- a fact of each pass, where those of one seat have changed
each-joined : (P : PassView → Type 0) (views : List (List PassView)) (id : ℕ)
    (view new : List PassView) → get_elem? views id ≡ some view → All P new
    → All P (joined_passes views) → All P (joined_passes (set views id new))
each-joined P [] id view new e mine all = absurd (some-ne-none view (sym e))
each-joined P (first ∷ views) zero view new e mine all =
    All-append P new (joined_passes views) mine (All-right P first (joined_passes views) all)
each-joined P (first ∷ views) (suc id) view new e mine all =
    All-append P first (joined_passes (set views id new))
    (All-left P first (joined_passes views) all)
    (each-joined P views id view new e mine (All-right P first (joined_passes views) all))

each-raised : (P : PassView → Type 0) (history : List Change) (passes : List PassView)
    → ((pass : PassView) → P pass → P (with_seen history pass)) → All P passes
    → All P (map (with_seen history) passes)
each-raised P history [] keeps all = All-nil P
each-raised P history (pass ∷ passes) keeps all =
    All-cons P (with_seen history pass) (map (with_seen history) passes)
    (keeps pass (All-head P pass passes all))
    (each-raised P history passes keeps (All-tail P pass passes all))

-- each pass then tells the same
each-told : (history seen : List Change) (passes : List PassView) → Begins seen history
    → All (λ (pass : PassView). length pass.seen ≤ length seen) passes
    → All (λ (pass : PassView). Begins pass.seen history) passes
    → All (HasItsChanges history) passes
    → All (HasItsChanges history) (map (with_seen seen) passes)
each-told history seen [] sees_all long sees told = All-nil (HasItsChanges history)
each-told history seen (pass ∷ passes) sees_all long sees told =
    let Long : PassView → Type 0 = λ (it : PassView). length it.seen ≤ length seen in
    let Sees : PassView → Type 0 = λ (it : PassView). Begins it.seen history in
    All-cons (HasItsChanges history) (with_seen seen pass) (map (with_seen seen) passes)
    (told-seen (drawn_number pass.state) history seen pass (with_seen seen pass) refl refl refl
    (All-head Sees pass passes sees) sees_all
    (All-head Long pass passes long) (All-head (HasItsChanges history) pass passes told))
    (each-told history seen passes sees_all (All-tail Long pass passes long)
    (All-tail Sees pass passes sees) (All-tail (HasItsChanges history) pass passes told))

kept-raised : (s : Settings) (words : List ℕ) (views : List (List PassView)) (id : ℕ)
    (view : List PassView) (history : List Change) (kept : IsKept s words views)
    → get_elem? views id ≡ some view → Begins history kept.history
    → All (λ (pass : PassView). length pass.seen ≤ length history) view
    → IsKept s words (set views id (map (with_seen history) view))
kept-raised s words views id view history kept there begins long =
    let threads = joined-states views id view history there in
    let new = map (with_seen history) view in
    let core_is : core_in s words (joined_passes (set views id new))
    ≡ core_in s words (joined_passes views) =
    λ i. record { settings = s; shared = shared_in s words; threads = threads i } in
    let Owns : PassView → Type 0 = PassOwnsItsMarks (shared_in s words).servers in
    let Under : PassView → Type 0 = λ pass. pass.settings ≡ s in
    let Sees : PassView → Type 0 = λ pass. Begins pass.seen kept.history in
    let Plans : PassView → Type 0 = λ pass. IsPlanned s pass.state in
    let Tells : PassView → Type 0 = HasItsChanges kept.history in
    record {
      core = record {
        valid = kept.core.valid;
        core = subst IsCore (sym core_is) kept.core.core;
        owned = each-joined Owns views id view new there
            (each-raised Owns history view (λ pass owns. owns)
            (seen-view Owns views id view there kept.core.owned)) kept.core.owned;
        settings = each-joined Under views id view new there
            (each-raised Under history view (λ pass under. under)
            (seen-view Under views id view there kept.core.settings)) kept.core.settings;
      };
      history = kept.history;
      told = record {
        replays = kept.told.replays;
        seen = each-joined Sees views id view new there
            (each-raised Sees history view (λ pass sees. begins)
            (seen-view Sees views id view there kept.told.seen)) kept.told.seen;
        planned = each-joined Plans views id view new there
            (each-raised Plans history view (λ pass plans. plans)
            (seen-view Plans views id view there kept.told.planned)) kept.told.planned;
        drawn = kept.told.drawn;
        mine = each-joined Tells views id view new there
            (each-told kept.history history view begins long
            (seen-view Sees views id view there kept.told.seen)
            (seen-view Tells views id view there kept.told.mine)) kept.told.mine;
      };
    }

-- the longest of these beginnings is one too
longest-begins : (history : List Change) (passes : List PassView)
    → All (λ (pass : PassView). Begins pass.seen history) passes
    → Begins (longest_seen passes) history
longest-begins history [] all = record { rest = history; is = refl }
longest-begins history (pass ∷ passes) all =
    let Sees : PassView → Type 0 = λ (it : PassView). Begins it.seen history in
    let rest = longest_seen passes in
    cond_both (ltb (length rest) (length pass.seen)) pass.seen rest (λ it. Begins it history)
    (λ e. All-head Sees pass passes all)
    (λ e. longest-begins history passes (All-tail Sees pass passes all))

longest-le : (passes : List PassView)
    → All (λ (pass : PassView). length pass.seen ≤ length (longest_seen passes)) passes
longest-le [] = All-nil (λ (pass : PassView). length pass.seen ≤ 0)
longest-le (pass ∷ passes) =
    let rest = longest_seen passes in
    let test = ltb (length rest) (length pass.seen) in
    cond_both test pass.seen rest
    (λ it. All (λ (at : PassView). length at.seen ≤ length it) (pass ∷ passes))
    (λ e.
    let less = ltb-true (length rest) (length pass.seen) e in
    All-cons (λ (at : PassView). length at.seen ≤ length pass.seen) pass passes (omega arith)
    (All-weaker (λ (at : PassView). length at.seen ≤ length rest)
    (λ (at : PassView). length at.seen ≤ length pass.seen)
    (λ at le. omega (arith, le, less)) passes (longest-le passes)))
    (λ e.
    let le = ltb-false (length rest) (length pass.seen) e in
    All-cons (λ (at : PassView). length at.seen ≤ length rest) pass passes (omega (arith, le))
    (longest-le passes))

-- ---- the rule

set_again_at : {A : Type 0} (xs : List A) (i : ℕ) (one other : A)
    → set (set xs i one) i other ≡ set xs i other
set_again_at [] i one other = refl
set_again_at (x ∷ xs) zero one other = refl
set_again_at (x ∷ xs) (suc i) one other = ap (λ it. x ∷ it) (set_again_at xs i one other)

set_apart : {A : Type 0} (xs : List A) (i j : ℕ) (one two three : A) → (j ≡ i → ⊥)
    → set (set (set xs i one) j two) i three ≡ set (set xs i three) j two
set_apart [] i j one two three apart = refl
set_apart (x ∷ xs) zero zero one two three apart = absurd (apart refl)
set_apart (x ∷ xs) zero (suc j) one two three apart = refl
set_apart (x ∷ xs) (suc i) zero one two three apart =
    ap (λ it. two ∷ it) (set_again_at xs i one three)
set_apart (x ∷ xs) (suc i) (suc j) one two three apart =
    ap (λ it. x ∷ it) (set_apart xs i j one two three (λ same. apart (ap suc same)))

pub joins : (s : Settings) (id other : ℕ) (view more : List PassView)
    → Joins (Rule s) id view other more (passes_raised (view ++ more)) []
joins s id other view more state kept at apart at_other =
    let views = state.views in
    let both = view ++ more in
    let there : get_elem? views other ≡ some more =
    sym (set_else views id other (passes_raised both) apart) ∙ at_other in
    let views_one = set (set views id both) other [] in
    let kept_one = kept-permuted s state.words views views_one
    (moved views id other view more at there apart) kept in
    let at_one : get_elem? views_one id ≡ some both =
    set_else (set views id both) other id [] (λ same. apart (sym same))
    ∙ set_here views id both (there-lt views id view at) in
    let seen = seen-view (λ (pass : PassView). Begins pass.seen kept_one.history) views_one id both
    at_one kept_one.told.seen in
    subst (IsKept s state.words) (set_apart views id other both [] (passes_raised both) apart)
    (kept-raised s state.words views_one id both (longest_seen both) kept_one at_one
    (longest-begins kept_one.history both seen) (longest-le both))

-- two seats are joined, and each pass has seen what it had seen
pub gathers : (s : Settings) (id other : ℕ) (view more : List PassView)
    → Joins (Rule s) id view other more (view ++ more) []
gathers s id other view more state kept at apart at_other =
    let views = state.views in
    let there : get_elem? views other ≡ some more =
    sym (set_else views id other (view ++ more) apart) ∙ at_other in
    kept-permuted s state.words views (set (set views id (view ++ more)) other [])
    (moved views id other view more at there apart) kept

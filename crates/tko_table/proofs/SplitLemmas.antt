-- Seats are split and joined: the passes of all seats are the same in another order.
use Rattle.std.proofs.Common.{◌≡◌, ℕ, zero, suc, List, [], ◌∷◌, ◌++◌, take, drop, set, sym, ap, ◌∙◌}
use Rattle.std.proofs.Common.{subst}
use Rattle.std.specs.List.Sorted.{IsPermutation}
use Rattle.std.proofs.lemmas.List.{append-nil, append_assoc, take-append-drop}
use Rattle.std.proofs.lemmas.List.Sorted.{All-permutation, IsPermutation-append_comm}
use Rattle.std.proofs.lemmas.List.Sorted.{IsPermutation-append_right, IsPermutation-map}
use mathlib.Core.Option.{some, some-injective, some-ne-none}
use lib.ListN.{get_elem?}
use Rattle.atomic_table.specs.Table.{Splits}
use Rattle.tko_model.specs.Settings.{Settings}
use Rattle.tko_steps.proofs.JoinedLemmas.{core-permuted}
use Rattle.tko_table.specs.declared.pass.PassView.{PassView}
use Rattle.tko_table.specs.History.{Begins}
use Rattle.tko_table.specs.Passes.{PassOwnsItsMarks, HasItsChanges}
use Rattle.tko_table.specs.Rule.{IsKept, IsPlanned, joined_passes, shared_in, states_of}
use Rattle.tko_table.proofs.AllowsLemmas.{Rule}

-- the order of the passes does not matter
pub kept-permuted : (s : Settings) (words : List ℕ) (views others : List (List PassView))
    → IsPermutation (joined_passes views) (joined_passes others)
    → IsKept s words views → IsKept s words others
kept-permuted s words views others same kept =
    record {
      core = record {
        valid = kept.core.valid;
        core = core-permuted s (shared_in s words) (states_of (joined_passes views))
            (states_of (joined_passes others))
            (IsPermutation-map (λ (pass : PassView). pass.state) (joined_passes views)
            (joined_passes others) same) kept.core.core;
        owned = All-permutation (PassOwnsItsMarks (shared_in s words).servers) (joined_passes views)
            (joined_passes others) same kept.core.owned;
        settings = All-permutation (λ (pass : PassView). pass.settings ≡ s) (joined_passes views)
            (joined_passes others) same kept.core.settings;
      };
      history = kept.history;
      told = record {
        replays = kept.told.replays;
        seen = All-permutation (λ (pass : PassView). Begins pass.seen kept.history)
            (joined_passes views) (joined_passes others) same kept.told.seen;
        planned = All-permutation (λ (pass : PassView). IsPlanned s pass.state)
            (joined_passes views) (joined_passes others) same kept.told.planned;
        drawn = kept.told.drawn;
        mine = All-permutation (HasItsChanges kept.history) (joined_passes views)
            (joined_passes others) same kept.told.mine;
      };
    }

joined-push : (views : List (List PassView)) (view : List PassView)
    → joined_passes (views ++ view ∷ []) ≡ joined_passes views ++ view
joined-push [] view = append-nil view
joined-push (first ∷ views) view = ap (λ it. first ++ it) (joined-push views view)
    ∙ sym (append_assoc first (joined_passes views) view)

split-permutes : (views : List (List PassView)) (id : ℕ) (view left right : List PassView)
    → get_elem? views id ≡ some view → view ≡ left ++ right
    → IsPermutation (joined_passes views) (joined_passes (set views id left ++ right ∷ []))
split-permutes [] id view left right e parts = absurd (some-ne-none view (sym e))
split-permutes (first ∷ views) zero view left right e parts =
    let P : List PassView → Type 0 =
    λ it. IsPermutation it (left ++ joined_passes (views ++ right ∷ [])) in
    let Q : List PassView → Type 0 =
    λ it. IsPermutation (left ++ (right ++ joined_passes views)) (left ++ it) in
    let whole : left ++ (right ++ joined_passes views) ≡ first ++ joined_passes views =
    sym (append_assoc left right (joined_passes views))
    ∙ ap (λ it. it ++ joined_passes views) (sym parts ∙ sym (some-injective first view e)) in
    subst P whole
    (subst Q (sym (joined-push views right))
    (IsPermutation-append_right left (right ++ joined_passes views) (joined_passes views ++ right)
    (IsPermutation-append_comm right (joined_passes views))))
split-permutes (first ∷ views) (suc id) view left right e parts =
    IsPermutation-append_right first (joined_passes views)
    (joined_passes (set views id left ++ right ∷ []))
    (split-permutes views id view left right e parts)

-- a seat is split
pub splits : (s : Settings) (id : ℕ) (view : List PassView)
    → Splits (Rule s) id view (take 1 view) (drop 1 view)
splits s id view state kept at =
    kept-permuted s state.words state.views (set state.views id (take 1 view) ++ drop 1 view ∷ [])
    (split-permutes state.views id view (take 1 view)
    (drop 1 view) at (sym (take-append-drop 1 view))) kept

-- The rule is kept where a call begins. No word changes, and the call's first look follows at once.
use Rattle.std.proofs.Common.{◌≡◌, ℕ, ◌<◌, List, ◌∷◌, ◌++◌, length, set, All, refl, sym, ap, ◌∙◌}
use Rattle.std.proofs.Common.{subst, arith}
use Rattle.std.proofs.lemmas.List.{get_or-map, length-map, map-set}
use Rattle.std.proofs.lemmas.List.Elements.{All-set}
use mathlib.Core.Option.{some}
use lib.ListN.{get_elem?}
use Rattle.atomic_table.proofs.Lists.{set_again}
use Rattle.tko_model.specs.declared.mark.Op.{Op}
use Rattle.tko_model.specs.Settings.{Settings}
use Rattle.tko_steps.specs.declared.phase.Call.{Call}
use Rattle.tko_steps.specs.declared.phase.Phase.{Phase}
use Rattle.tko_steps.specs.declared.phase.Phase.TheVariants.{Start}
use Rattle.tko_steps.specs.declared.phase.ThreadState.{ThreadState}
use Rattle.tko_steps.specs.declared.phase.ThreadState.TheVariants.{NotEnrolled, Idle, InCall}
use Rattle.tko_steps.specs.Core.{CoreState, drawn_number, thread_at}
use Rattle.tko_steps.specs.Steps.{begun_by, in_call}
use Rattle.tko_steps.specs.Invariant.{IsCore}
use Rattle.tko_steps.proofs.BeginLemmas.{IsCore-after_begin}
use Rattle.tko_model.specs.Tracker.{server_at}
use Rattle.tko_table.specs.declared.pass.PassView.{PassView}
use Rattle.tko_table.specs.History.{Begins, changes_in}
use Rattle.tko_table.specs.Passes.{StandsIn, PassOwnsItsMarks, HasItsChanges, is_marked_by, pending}
use Rattle.tko_table.specs.Rule.{IsKept, IsPlanned, core_in, joined_passes, shared_in, states_of}
use Rattle.tko_table.proofs.JoinedLemmas.{IsOneOf, one-joined}

-- the pass with another state
abbrev pub with_state : PassView → ThreadState → PassView
with_state pass state = record pass { state = state }

module _ (s : Settings) (words : List ℕ) (views : List (List PassView)) (id : ℕ)
    (before rest : List PassView) (pass : PassView) (op : Op) (server : ℕ)
    (kept : IsKept s words views) (there : get_elem? views id ≡ some (before ++ pass ∷ rest))
    (on_server : server < length (shared_in s words).servers) where
  one : IsOneOf (joined_passes views) pass
      (λ new. joined_passes (set views id (before ++ new ∷ rest)))
  one = one-joined views id before rest pass there

  -- a call that begins has made no change
  begins-told : (number : ℕ) → pass.state ≡ Idle number
      → HasItsChanges kept.history (with_state pass (InCall (begun_by number op server) Start))
  begins-told number stands =
      let mine = subst (HasItsChanges kept.history) (one.at pass)
      (kept.told.mine one.place pass one.inside) in
      let told = subst (λ drew. StandsIn drew kept.history pass) (ap drawn_number stands) mine in
      (told.0 ∙ ap (λ state. changes_in number pass.mine ++ pending state) stands, told.1)

  begun-Idle : (number : ℕ) → pass.state ≡ Idle number
      → IsKept s words (set views id
      (before ++ with_state pass (InCall (begun_by number op server) Start) ∷ rest))
  begun-Idle number stands =
      let state : ThreadState = InCall (begun_by number op server) Start in
      let new : PassView = with_state pass state in
      let passes = joined_passes views in
      let core : CoreState = core_in s words passes in
      let inside : one.place < length (states_of passes) =
      omega (arith, one.inside, length-map passes (λ (at : PassView). at.state)) in
      let stands_in : thread_at core one.place ≡ Idle number =
      get_or-map (λ (at : PassView). at.state) passes one.place pass NotEnrolled one.inside
      ∙ ap (λ (at : PassView). at.state) (one.at pass) ∙ stands in
      let threads : states_of (joined_passes (set views id (before ++ new ∷ rest)))
      ≡ set (states_of passes) one.place state =
      ap states_of (one.sets new) ∙ map-set (λ (at : PassView). at.state) passes one.place new in
      let core_is : core_in s words (joined_passes (set views id (before ++ new ∷ rest)))
      ≡ record {
        settings = s;
        shared = shared_in s words;
        threads = set (states_of passes) one.place state;
      } =
      λ i. record { settings = s; shared = shared_in s words; threads = threads i } in
      let owned : PassOwnsItsMarks (shared_in s words).servers pass =
      subst (PassOwnsItsMarks (shared_in s words).servers) (one.at pass)
      (kept.core.owned one.place pass one.inside) in
      record {
        core = record {
          valid = kept.core.valid;
          core = subst IsCore (sym core_is) (IsCore-after_begin core one.place number op server
              kept.core.core inside stands_in on_server);
          owned = subst (All (PassOwnsItsMarks (shared_in s words).servers)) (sym (one.sets new))
              (All-set (PassOwnsItsMarks (shared_in s words).servers) passes one.place new
              (λ at. owned at ∙ ap (λ state. is_marked_by (drawn_number state)
              (server_at (shared_in s words).servers at).mark) stands) kept.core.owned);
          settings = subst (All (λ (at : PassView). at.settings ≡ s)) (sym (one.sets new))
              (All-set (λ (at : PassView). at.settings ≡ s) passes one.place new
              (subst (λ (at : PassView). at.settings ≡ s) (one.at pass)
              (kept.core.settings one.place pass one.inside)) kept.core.settings);
        };
        history = kept.history;
        told = record {
          replays = kept.told.replays;
          seen = subst (All (λ (at : PassView). Begins at.seen kept.history)) (sym (one.sets new))
              (All-set (λ (at : PassView). Begins at.seen kept.history) passes one.place new
              (subst (λ (at : PassView). Begins at.seen kept.history) (one.at pass)
              (kept.told.seen one.place pass one.inside)) kept.told.seen);
          planned = subst (All (λ (at : PassView). IsPlanned s at.state)) (sym (one.sets new))
              (All-set (λ (at : PassView). IsPlanned s at.state) passes one.place new tt
              kept.told.planned);
          drawn = kept.told.drawn;
          mine = subst (All (HasItsChanges kept.history)) (sym (one.sets new))
              (All-set (HasItsChanges kept.history) passes one.place new
              (begins-told number stands) kept.told.mine);
        };
      }

  begun-from : (state : ThreadState) (call : Call) (phase : Phase) → pass.state ≡ state
      → in_call state op server ≡ InCall call phase
      → IsKept s words (set views id (before ++ with_state pass (InCall call phase) ∷ rest))
  begun-from NotEnrolled call phase stands begins = cc
  begun-from (Idle number) call phase stands begins =
      subst (λ (state : ThreadState). IsKept s words
      (set views id (before ++ with_state pass state ∷ rest))) begins (begun-Idle number stands)
  begun-from (InCall own at) call phase stands begins =
      let is : pass.state ≡ InCall call phase = stands ∙ begins in
      let same : pass ≡ with_state pass (InCall call phase) =
      λ i. record {
        state = is i;
        owned = pass.owned;
        steps = pass.steps;
        seen = pass.seen;
        mine = pass.mine;
        decided_at = pass.decided_at;
        settings = pass.settings;
      } in
      subst (IsKept s words)
      (sym (set_again views id (before ++ pass ∷ rest) there)
      ∙ ap (λ (it : PassView). set views id (before ++ it ∷ rest)) same)
      kept

  -- the call that is under way, or that begins with this operation on this server
  pub begin-kept : (call : Call) (phase : Phase) → in_call pass.state op server ≡ InCall call phase
      → IsKept s words (set views id (before ++ with_state pass (InCall call phase) ∷ rest))
  begin-kept call phase begins = begun-from pass.state call phase refl begins

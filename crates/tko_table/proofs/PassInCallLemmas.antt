-- What the rule says of one of the passes, which is in a call at a phase.
use Rattle.std.proofs.Common.{◌≡◌, ℕ, ◌<◌, List, [], ◌∷◌, ◌++◌, length, set, All, Some, sym, ap}
use Rattle.std.proofs.Common.{◌∙◌, subst, arith}
use Rattle.std.proofs.lemmas.List.{append-nil, append_cancel_left, get_or-map, length-map}
use Rattle.std.proofs.lemmas.List.Elements.{All-tail, All-weaker}
use mathlib.Core.Option.{some}
use lib.ListN.{get_elem?}
use Rattle.tko_model.specs.Settings.{Settings}
use Rattle.tko_model.specs.Tracker.{server_at}
use Rattle.tko_steps.specs.declared.phase.Call.{Call}
use Rattle.tko_steps.specs.declared.phase.Phase.{Phase}
use Rattle.tko_steps.specs.declared.phase.ThreadState.TheVariants.{NotEnrolled, InCall}
use Rattle.tko_steps.specs.Core.{drawn_number, thread_at}
use Rattle.tko_steps.specs.Invariant.{IsPhase}
use Rattle.tko_steps.proofs.PhaseStepLemmas.{knows_at}
use Rattle.tko_steps.proofs.RoomLemmas.{enrolled-le}
use Rattle.tko_steps.proofs.ThreadLemmas.{number-lt}
use Rattle.tko_table.specs.declared.pass.Change.{Change}
use Rattle.tko_table.specs.declared.pass.PassView.{PassView}
use Rattle.tko_table.specs.History.{Begins, made_by}
use Rattle.tko_table.specs.Passes.{StandsIn, PassOwnsItsMarks, HasItsChanges, is_marked_by, owns}
use Rattle.tko_table.specs.Rule.{IsKept, IsPlanned, IsPlannedAt, core_in, joined_passes, shared_in}
use Rattle.tko_table.specs.Rule.{states_of}
use Rattle.tko_table.proofs.AddedChangeLemmas.{made_by-append}
use Rattle.tko_table.proofs.JoinedLemmas.{IsOneOf, one-joined}

-- the rule is kept, and this pass, one of its seat's, is in this call at this phase
pub record IsInCall (s : Settings) (words : List ℕ) (views : List (List PassView)) (id : ℕ)
    (before rest : List PassView) (pass : PassView) (call : Call)
    (phase : Phase) : Type 0 where
  pub kept : IsKept s words views
  pub there : get_elem? views id ≡ some (before ++ pass ∷ rest)
  pub stands : pass.state ≡ InCall call phase

All-right_part : (P : Change → Type 0) (one other : List Change) → All P (one ++ other)
    → All P other
All-right_part P [] other all = all
All-right_part P (change ∷ one) other all =
    All-right_part P one other (All-tail P change (one ++ other) all)

module _ {s : Settings} {words : List ℕ} {views : List (List PassView)} {id : ℕ}
    {before rest : List PassView} {pass : PassView} {call : Call}
    {phase : Phase} (here : IsInCall s words views id before rest pass call phase) where
  abbrev one : IsOneOf (joined_passes views) pass
      (λ new. joined_passes (set views id (before ++ new ∷ rest)))
  one = one-joined views id before rest pass here.there

  pub same_settings : pass.settings ≡ s
  same_settings = subst (λ (at : PassView). at.settings ≡ s) (one.at pass)
      (here.kept.core.settings one.place pass one.inside)

  pub planned : IsPlannedAt s call phase
  planned =
      let mine = subst (λ (at : PassView). IsPlanned s at.state) (one.at pass)
      (here.kept.told.planned one.place pass one.inside) in
      subst (IsPlanned s) here.stands mine

  pub inside : one.place < length (states_of (joined_passes views))
  inside = omega (arith, one.inside, length-map (joined_passes views) (λ (at : PassView). at.state))

  pub stands_in : thread_at (core_in s words (joined_passes views)) one.place ≡ InCall call phase
  stands_in = get_or-map (λ (at : PassView). at.state) (joined_passes views) one.place pass
      NotEnrolled one.inside ∙ ap (λ (at : PassView). at.state) (one.at pass) ∙ here.stands

  pub named : drawn_number pass.state ≡ Some call.number
  named = ap drawn_number here.stands

  pub owned_before : PassOwnsItsMarks (shared_in s words).servers pass
  owned_before = subst (PassOwnsItsMarks (shared_in s words).servers) (one.at pass)
      (here.kept.core.owned one.place pass one.inside)

  -- so it owns what the marks with its call's number say
  pub own_before : (server : ℕ)
      → owns pass.owned server
      ≡ is_marked_by (Some call.number) (server_at (shared_in s words).servers server).mark
  own_before server =
      owned_before server
      ∙ ap (λ number. is_marked_by number (server_at (shared_in s words).servers server).mark) named

  -- the changes of its thread, and of the others
  pub knows : IsPhase s call (server_at (shared_in s words).servers call.server) phase
  knows = (knows_at (core_in s words (joined_passes views)) one.place call here.kept.core.core
      inside phase stands_in).2

  pub mine_before : StandsIn (Some call.number) here.kept.history pass
  mine_before =
      let mine = subst (HasItsChanges here.kept.history) (one.at pass)
      (here.kept.told.mine one.place pass one.inside) in
      subst (λ drew. StandsIn drew here.kept.history pass) named mine

  pub call_drawn : call.number < (shared_in s words).enrolled
  call_drawn =
      number-lt (states_of (joined_passes views)) (shared_in s words).enrolled one.place call.number
      here.kept.core.core.numbers inside (ap drawn_number stands_in)

  pub begins : Begins pass.seen here.kept.history
  begins = subst (λ (at : PassView). Begins at.seen here.kept.history) (one.at pass)
      (here.kept.told.seen one.place pass one.inside)

  -- the changes since it looked last are others'
  pub others_between : made_by call.number begins.rest ≡ []
  others_between =
      let whole : made_by call.number here.kept.history ≡ made_by call.number pass.seen
      ++ made_by call.number begins.rest =
      ap (made_by call.number) begins.is ∙ made_by-append call.number pass.seen begins.rest in
      append_cancel_left (made_by call.number pass.seen) (made_by call.number begins.rest) []
      (sym whole ∙ sym mine_before.1 ∙ sym (append-nil (made_by call.number pass.seen)))

  pub drawn_between : All (λ (change : Change). change.number < pass.settings.threads) begins.rest
  drawn_between =
      let le = enrolled-le (core_in s words (joined_passes views)) here.kept.core.core in
      let threads = here.kept.core.core.threads in
      let all = subst (All (λ (change : Change). change.number < (shared_in s words).enrolled))
      begins.is here.kept.told.drawn in
      All-weaker (λ (change : Change). change.number < (shared_in s words).enrolled)
      (λ (change : Change). change.number < pass.settings.threads)
      (λ change less. omega (arith, less, le, ap (λ (it : Settings). it.threads) same_settings))
      begins.rest
      (All-right_part (λ (change : Change). change.number < (shared_in s words).enrolled) pass.seen
      begins.rest all)

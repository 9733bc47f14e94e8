-- The rule is kept by the step of a call.
use Rattle.std.proofs.Common.{◌≡◌, ℕ, ◌+◌, ◌<◌, List, ◌∷◌, ◌++◌, length, set, All, Some, refl, sym}
use Rattle.std.proofs.Common.{ap, ◌∙◌, subst, ⊎_elim, length-set, get_or-set_same}
use Rattle.std.proofs.lemmas.List.{append-nil, map-set}
use Rattle.std.proofs.lemmas.List.Elements.{All-append, All-set, All-weaker}
use mathlib.Core.Option.{some}
use lib.ListN.{get_elem?}
use Rattle.tko_model.specs.Settings.{Settings}
use Rattle.tko_model.specs.declared.state.ServerState.{ServerState}
use Rattle.tko_model.specs.Tracker.{server_at}
use Rattle.tko_word.specs.Words.{IsWord}
use Rattle.tko_steps.specs.declared.phase.Call.{Call}
use Rattle.tko_steps.specs.declared.phase.Phase.{Phase}
use Rattle.tko_steps.specs.declared.phase.ThreadState.{ThreadState}
use Rattle.tko_steps.specs.declared.phase.ThreadState.TheVariants.{InCall}
use Rattle.tko_steps.specs.declared.table.Decision.{Decision}
use Rattle.tko_steps.specs.declared.table.Observed.{Observed}
use Rattle.tko_steps.specs.Core.{CoreState, Shared, after_act, drawn_number, seen_by, shared_after}
use Rattle.tko_steps.specs.Steps.{decided_state, is_done}
use Rattle.tko_steps.specs.Invariant.{IsCore}
use Rattle.tko_steps.specs.Table.{action_of, next_of}
use Rattle.tko_steps.proofs.PhaseStepLemmas.{IsCore-after_act}
use Rattle.tko_steps.proofs.OwnLemmas.{number-after-step}
use Rattle.tko_table.specs.declared.pass.Change.{Change}
use Rattle.tko_table.specs.declared.pass.PassView.{PassView}
use Rattle.tko_table.specs.History.{Begins, Replays, change_by, changes_in, made_by}
use Rattle.tko_table.specs.Passes.{StandsIn, PassOwnsItsMarks, HasItsChanges, pass_after_step}
use Rattle.tko_table.specs.Passes.{changes_by, decided_after, is_marked_by, mine_after, owns}
use Rattle.tko_table.specs.Passes.{pending}
use Rattle.tko_table.specs.Rule.{IsKept, IsPlanned, core_in, health_in, joined_passes, shared_in}
use Rattle.tko_table.specs.Rule.{states_of}
use Rattle.tko_table.specs.Steps.{Takes}
use Rattle.tko_table.proofs.AddedChangeLemmas.{made_by-append, sure-from, told-next}
use Rattle.tko_table.proofs.TakesLemmas.{takes}
use Rattle.tko_table.proofs.ThreadChangeLemmas.{changes-drawn, made-changes, other-changes}
use Rattle.tko_table.proofs.ThreadChangeLemmas.{told-other}
use Rattle.tko_table.proofs.EffectLemmas.{Effect, IsQuiet, IsWritten, effect-of}
use Rattle.tko_table.proofs.HistoryLemmas.{Begins-all, Begins-more, Replays-push}
use Rattle.tko_table.proofs.JoinedLemmas.{IsOneOf, each-set, one-joined}
use Rattle.tko_table.proofs.OwnedLemmas.{owned-other, owned-own}
use Rattle.tko_table.proofs.PassInCallLemmas.{IsInCall, call_drawn, inside, knows, mine_before}
use Rattle.tko_table.proofs.PassInCallLemmas.{named, own_before, owned_before, planned}
use Rattle.tko_table.proofs.PassInCallLemmas.{same_settings, stands_in}
use Rattle.tko_table.proofs.PlanLemmas.{plans-next}

module _ (s : Settings) (words new_words : List ℕ) (views : List (List PassView)) (id : ℕ)
    (before rest : List PassView) (pass : PassView) (call : Call)
    (phase : Phase) (kept : IsKept s words views)
    (there : get_elem? views id ≡ some (before ++ pass ∷ rest))
    (stands : pass.state ≡ InCall call phase)
    (left : shared_in s new_words
    ≡ shared_after s (shared_in s words) call.server (action_of call.number phase))
    (valid : All IsWord (health_in s new_words)) where
  abbrev here : IsInCall s words views id before rest pass call phase
  here = record { kept = kept; there = there; stands = stands }

  abbrev one : IsOneOf (joined_passes views) pass
      (λ new. joined_passes (set views id (before ++ new ∷ rest)))
  one = one-joined views id before rest pass there

  abbrev passes : List PassView
  passes = joined_passes views

  abbrev core_now : CoreState
  core_now = core_in s words passes

  abbrev servers : List ServerState
  servers = (shared_in s words).servers

  abbrev new_servers : List ServerState
  new_servers = (shared_in s new_words).servers

  abbrev it : Observed
  it = seen_by s (shared_in s words) call.server (action_of call.number phase)

  abbrev changes : List Change
  changes = changes_by call phase (is_done it)

  abbrev pub history_after : List Change
  history_after = kept.history ++ changes

  abbrev pub pass_after : PassView
  pass_after = pass_after_step pass call phase it kept.history

  abbrev passes_after : List PassView
  passes_after = set passes one.place pass_after

  state_is : pass_after.state ≡ decided_state call (next_of s call phase it)
  state_is = ap (λ (with_settings : Settings).
      decided_state call (next_of with_settings call phase it)) (same_settings here)

  threads_are : states_of (joined_passes (set views id (before ++ pass_after ∷ rest)))
      ≡ set (states_of passes) one.place (decided_state call (next_of s call phase it))
  threads_are =
      ap states_of (one.sets pass_after)
      ∙ map-set (λ (at : PassView). at.state) passes one.place pass_after
      ∙ ap (set (states_of passes) one.place) state_is

  core_is : core_in s new_words (joined_passes (set views id (before ++ pass_after ∷ rest)))
      ≡ after_act core_now one.place call phase
  core_is = λ i. record { settings = s; shared = left i; threads = threads_are i }

  core_after : IsCore
      (core_in s new_words (joined_passes (set views id (before ++ pass_after ∷ rest))))
  core_after =
      subst IsCore (sym core_is) (IsCore-after_act core_now one.place call kept.core.core
      (inside here) phase (stands_in here))

  effect : Effect s call servers new_servers pass.owned pass_after.owned changes
  effect =
      subst (λ (shared : Shared).
      Effect s call servers shared.servers pass.owned pass_after.owned changes)
      (sym left) (effect-of core_now one.place call kept.core.core (inside here) pass.owned phase
      (stands_in here) (planned here))

  named_after : drawn_number pass_after.state ≡ Some call.number
  named_after = number-after-step call (next_of pass.settings call phase it)

  -- the owned servers of each pass, by what the step did
  owned_by : Effect s call servers new_servers pass.owned pass_after.owned changes
      → All (PassOwnsItsMarks new_servers) passes_after
  owned_by =
      ⊎_elim
      (λ (quiet : IsQuiet servers new_servers pass.owned pass_after.owned changes).
      subst (λ new. All (PassOwnsItsMarks new) passes_after) (sym quiet.same)
      (All-set (PassOwnsItsMarks servers) passes one.place pass_after
      (λ server. ap (λ owned. owns owned server) quiet.kept ∙ owned_before here server
      ∙ ap (λ number. is_marked_by number (server_at servers server).mark)
      (named here ∙ sym named_after))
      kept.core.owned))
      (λ (write : IsWritten s call servers new_servers pass.owned pass_after.owned changes).
      let now : ServerState =
      record { mark = write.mark; stamp = (server_at servers call.server).stamp + 1 } in
      subst (λ new. All (PassOwnsItsMarks new) passes_after) (sym write.wrote)
      (each-set (PassOwnsItsMarks servers) (PassOwnsItsMarks (set servers call.server now)) passes
      one.place call.number (shared_in s words).enrolled
      pass pass_after one.inside one.at (named here) kept.core.core.numbers
      (λ server. ap (λ owned. owns owned server) write.gained
      ∙ owned-own servers pass.owned call.server call.number now write.inside write.only
      (own_before here) server
      ∙ ap (λ number. is_marked_by number (server_at (set servers call.server now) server).mark)
      (sym named_after))
      (λ other apart owns_its. owned-other servers other.owned call.server call.number
      (drawn_number other.state) now write.inside write.was write.only apart owns_its)
      kept.core.owned))

  replays_by : Effect s call servers new_servers pass.owned pass_after.owned changes
      → Replays s history_after new_servers
  replays_by =
      ⊎_elim
      (λ (quiet : IsQuiet servers new_servers pass.owned pass_after.owned changes).
      let same : kept.history ≡ history_after =
      sym (append-nil kept.history) ∙ ap (λ more. kept.history ++ more) (sym quiet.none) in
      subst (λ new. Replays s history_after new) (sym quiet.same)
      (subst (λ history. Replays s history servers) same kept.told.replays))
      (λ (write : IsWritten s call servers new_servers pass.owned pass_after.owned changes).
      let same = ap (λ more. kept.history ++ more) (sym write.change) in
      subst (λ new. Replays s history_after new) (sym write.wrote)
      (subst (λ history. Replays s history (set servers call.server
      (record { mark = write.mark; stamp = (server_at servers call.server).stamp + 1 }))) same
      (Replays-push s kept.history servers
      (change_by call write.answer) write.mark kept.told.replays write.decides)))

  planned_after : IsPlanned s pass_after.state
  planned_after = subst (IsPlanned s) (sym state_is)
      (plans-next s call (shared_in s words) phase (planned here))

  abbrev place_now : ℕ
  place_now = decided_after phase pass.decided_at (length kept.history)

  told_after : changes_in call.number pass_after.mine ++ pending pass_after.state
      ≡ made_by call.number history_after
  told_after =
      let adds = told-next s call pass.mine place_now (shared_in s words) phase (planned here)
      (sure-from s call (shared_in s words) phase (knows here)) in
      let decided : next_of pass.settings call phase it ≡ next_of s call phase it =
      ap (λ (with_settings : Settings). next_of with_settings call phase it) (same_settings here) in
      ap (λ (decision : Decision). changes_in call.number (mine_after pass.mine call decision
      place_now) ++ pending (decided_state call decision)) decided
      ∙ adds
      ∙ ap (λ (state : ThreadState). (changes_in call.number pass.mine ++ pending state) ++ changes)
      (sym stands)
      ∙ ap (λ more. more ++ changes) (sym (mine_before here).0)
      ∙ ap (λ more. made_by call.number kept.history ++ more)
      (sym (made-changes call phase (is_done it)))
      ∙ sym (made_by-append call.number kept.history changes)

  mine_now : HasItsChanges history_after pass_after
  mine_now = subst (λ drew. StandsIn drew history_after pass_after) (sym named_after)
      (sym told_after, refl)

  mine_each : All (HasItsChanges history_after) passes_after
  mine_each =
      each-set (HasItsChanges kept.history)
      (HasItsChanges history_after) passes one.place call.number (shared_in s words).enrolled
      pass pass_after one.inside one.at (named here) kept.core.core.numbers mine_now
      (λ other apart told.
      told-other (drawn_number other.state) kept.history changes other
      (λ number drew. other-changes number call phase (is_done it)
      (λ same. apart (drew ∙ ap Some (sym same)))) told)
      kept.told.mine

  drawn_after : All (λ (change : Change). change.number < (shared_in s new_words).enrolled)
      history_after
  drawn_after =
      subst (λ enrolled. All (λ (change : Change). change.number < enrolled) history_after)
      (sym (ap (λ (shared : Shared). shared.enrolled) left))
      (All-append (λ (change : Change). change.number < (shared_in s words).enrolled) kept.history
      changes kept.told.drawn
      (changes-drawn (shared_in s words).enrolled call phase (is_done it) (call_drawn here)))

  pub act-kept : IsKept s new_words (set views id (before ++ pass_after ∷ rest))
  act-kept =
      let to = one.sets pass_after in
      let Own : PassView → Type 0 = λ at. at.settings ≡ s in
      let Saw : PassView → Type 0 = λ at. Begins at.seen history_after in
      let Plans : PassView → Type 0 = λ at. IsPlanned s at.state in
      record {
        core = record {
          valid = valid;
          core = core_after;
          owned = subst (All (PassOwnsItsMarks new_servers)) (sym to) (owned_by effect);
          settings = subst (All Own) (sym to)
              (All-set Own passes one.place pass_after (same_settings here) kept.core.settings);
        };
        history = history_after;
        told = record {
          replays = replays_by effect;
          seen = subst (All Saw) (sym to)
              (All-set Saw passes one.place pass_after (Begins-all history_after)
              (All-weaker (λ (at : PassView). Begins at.seen kept.history) Saw
              (λ at begun. Begins-more at.seen kept.history changes begun) passes kept.told.seen));
          planned = subst (All Plans) (sym to)
              (All-set Plans passes one.place pass_after planned_after kept.told.planned);
          drawn = drawn_after;
          mine = subst (All (HasItsChanges history_after)) (sym to) mine_each;
        };
      }

  owns_after : PassOwnsItsMarks new_servers pass_after
  owns_after =
      let inside_after : one.place < length passes_after = rw length-set one.inside in
      subst (PassOwnsItsMarks new_servers)
      (get_or-set_same passes one.place pass_after pass one.inside)
      (owned_by effect one.place pass inside_after)

  pub act-takes : Takes pass call phase it pass_after
  act-takes = takes new_words here left owns_after (replays_by effect)

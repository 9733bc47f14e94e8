-- What the step of a call took, once its pass owns what its marks name and the history is replayed.
use Rattle.std.proofs.Common.{◌≡◌, ℕ, List, ◌∷◌, ◌++◌, set, Some, refl, sym, ap, ◌∙◌, subst}
use Rattle.tko_model.specs.Settings.{Settings}
use Rattle.tko_model.specs.declared.state.ServerState.{ServerState}
use Rattle.tko_model.specs.Tracker.{server_at}
use Rattle.tko_steps.specs.declared.phase.Call.{Call}
use Rattle.tko_steps.specs.declared.phase.Phase.{Phase}
use Rattle.tko_steps.specs.declared.table.Observed.{Observed}
use Rattle.tko_model.specs.declared.mark.Mark.{Mark}
use Rattle.tko_model.specs.declared.mark.Mark.TheVariants.{Up, Soft, Hard}
use Rattle.tko_steps.specs.Core.{CoreState, Shared, seen_by, shared_after}
use Rattle.tko_steps.specs.Owners.{names}
use Rattle.tko_steps.specs.Core.{word_at}
use Rattle.tko_steps.specs.Steps.{owned_after as owned_after_core, place_of}
use Rattle.tko_steps.proofs.OwnLemmas.{number-after-step}
use Rattle.tko_steps.proofs.OwnedLemmas.{own-step}
use Rattle.tko_steps.specs.Steps.{is_done}
use Rattle.tko_steps.specs.Table.{action_of, next_of}
use Rattle.tko_steps.proofs.PhaseStepLemmas.{knows_at}
use Rattle.tko_table.specs.declared.pass.Change.{Change}
use Rattle.tko_table.specs.declared.pass.PassView.{PassView}
use Rattle.tko_table.specs.History.{Replays}
use Rattle.tko_table.specs.Passes.{PassOwnsItsMarks, pass_after_step, changes_by, is_marked_by}
use Rattle.tko_table.specs.Passes.{owns}
use Rattle.tko_table.specs.Rule.{IsKept, core_in, joined_passes, shared_in}
use Rattle.tko_table.specs.Steps.{Takes}
use Rattle.tko_table.proofs.JoinedLemmas.{IsOneOf, one-joined}
use Rattle.tko_table.proofs.PassInCallLemmas.{IsInCall, begins, drawn_between, inside}
use Rattle.tko_table.proofs.PassInCallLemmas.{others_between, own_before, same_settings, stands_in}

names-is : (number : ℕ) (mark : Mark) → is_marked_by (Some number) mark ≡ names mark (Some number)
names-is number (Up count) = refl
names-is number (Soft owner) = refl
names-is number (Hard owner) = refl

module _ {s : Settings} {words : List ℕ}
    (new_words : List ℕ) {views : List (List PassView)} {id : ℕ}
    {before rest : List PassView} {pass : PassView} {call : Call} {phase : Phase}
    (here : IsInCall s words views id before rest pass call phase)
    (left : shared_in s new_words
    ≡ shared_after s (shared_in s words) call.server (action_of call.number phase)) where
  abbrev kept : IsKept s words views
  kept = here.kept

  abbrev at : IsOneOf (joined_passes views) pass
      (λ new. joined_passes (set views id (before ++ new ∷ rest)))
  at = one-joined views id before rest pass here.there

  abbrev it : Observed
  it = seen_by s (shared_in s words) call.server (action_of call.number phase)

  abbrev history_after : List Change
  history_after = kept.history ++ changes_by call phase (is_done it)

  abbrev pass_after : PassView
  pass_after = pass_after_step pass call phase it kept.history

  abbrev core_now : CoreState
  core_now = core_in s words (joined_passes views)

  abbrev servers : List ServerState
  servers = (shared_in s words).servers

  abbrev new_servers : List ServerState
  new_servers = (shared_in s new_words).servers

  -- the core's step leaves it the same servers to own
  gained : PassOwnsItsMarks new_servers pass_after → (server : ℕ)
      → owns pass_after.owned server
      ≡ owned_after_core s call phase (word_at (shared_in s words)
      (place_of s call.server (action_of call.number phase))) (owns pass.owned) server
  gained owned server =
      let known =
      knows_at core_now at.place call kept.core.core (inside here) phase (stands_in here) in
      owned server
      ∙ ap (λ number. is_marked_by number (server_at new_servers server).mark)
      (number-after-step call (next_of pass.settings call phase it))
      ∙ names-is call.number (server_at new_servers server).mark
      ∙ ap (λ (shared : Shared). names (server_at shared.servers server).mark (Some call.number))
      left
      ∙ sym (own-step s (shared_in s words) call phase known (owns pass.owned)
      (λ place. own_before here place ∙ names-is call.number (server_at servers place).mark) server)

  pub takes : PassOwnsItsMarks new_servers pass_after → Replays s history_after new_servers
      → Takes pass call phase it pass_after
  takes owned replays =
      let same = sym (same_settings here) in
      record {
        core = core_now;
        is_found = record {
          is = kept.core.core;
          settings = same;
          thread = at.place;
          inside = inside here;
          stands = stands_in here;
        };
        between = (begins here).rest;
        found = subst (λ own. Replays own (pass.seen ++ (begins here).rest) servers) same
            (subst (λ history. Replays s history servers) (begins here).is kept.told.replays);
        others = others_between here;
        drawn = drawn_between here;
        reads =
            ap (λ own. seen_by own (shared_in s words) call.server (action_of call.number phase))
            same;
        left = subst
            (λ own. Replays own history_after
            (shared_after own (shared_in s words) call.server
            (action_of call.number phase)).servers)
            same (subst (λ (shared : Shared). Replays s history_after shared.servers) left replays);
        own = own_before here;
        gained = subst
            (λ own. (server : ℕ) → owns pass_after.owned server
            ≡ owned_after_core own call phase (word_at (shared_in s words)
            (place_of own call.server (action_of call.number phase))) (owns pass.owned) server)
            same (gained owned);
        knows = ap (pass_after_step pass call phase it) (begins here).is;
      }

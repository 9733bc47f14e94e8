-- What the step of each phase does to the servers: nothing, or it gives one server a mark that its
-- thread may give it.
use Rattle.std.proofs.Common.{◌≡◌, ℕ, ◌+◌, ◌<◌, Bool, true, cond, ◌⊎◌, List, [], ◌∷◌, length, set}
use Rattle.std.proofs.Common.{Some, refl, sym, ap, ◌∙◌, subst, inl, inr}
use Rattle.std.proofs.lemmas.Bool.{cases_Bool, lt-ltb}
use Rattle.tko_model.specs.declared.mark.Mark.{Mark}
use Rattle.tko_model.specs.declared.mark.Mark.TheVariants.{Soft}
use Rattle.tko_model.specs.declared.mark.Reply.{Reply}
use Rattle.tko_model.specs.declared.mark.Reply.TheVariants.{Full, TookSoft}
use Rattle.tko_model.specs.Settings.{Settings}
use Rattle.tko_model.specs.declared.state.ServerState.{ServerState}
use Rattle.tko_model.specs.Tracker.{becomes, has_room, server_at, stays, transition, softs_beside}
use Rattle.tko_steps.specs.declared.phase.Call.{Call}
use Rattle.tko_steps.specs.declared.phase.Phase.{Phase}
use Rattle.tko_steps.specs.declared.phase.Phase.TheVariants.{Start, Read, AtThreshold, Limit}
use Rattle.tko_steps.specs.declared.phase.Phase.TheVariants.{Reserving, Holding, Firming, Losing}
use Rattle.tko_steps.specs.declared.phase.Phase.TheVariants.{Loosening, Loosened, Emptied}
use Rattle.tko_steps.specs.declared.phase.ThreadState.TheVariants.{InCall}
use Rattle.tko_steps.specs.Core.{CoreState, abstract_of, seen_by, shared_after, thread_at}
use Rattle.tko_steps.specs.Owners.{owner_of}
use Rattle.tko_steps.specs.Core.{slots_at}
use Rattle.tko_steps.specs.Steps.{is_done}
use Rattle.tko_steps.specs.Invariant.{IsCore, IsFoundBy}
use Rattle.tko_steps.specs.Table.{action_of, same_server, same_slots}
use Rattle.tko_steps.proofs.PhaseLemmas.{free-found, free-fresh, owners-written}
use Rattle.tko_steps.proofs.PhaseStepLemmas.{knows_at}
use Rattle.tko_steps.proofs.TableLemmas.{same_server-true}
use Rattle.tko_table.specs.declared.pass.Change.{Change}
use Rattle.tko_table.specs.History.{change_by}
use Rattle.tko_table.specs.Passes.{changes_by, owned_after_action, owned_with}
use Rattle.tko_table.specs.Rule.{IsPlannedAt}
use Rattle.tko_table.proofs.OwnedLemmas.{NamesOnly}
use Rattle.tko_model.specs.Groups.{group_of, limit_at}
use Rattle.tko_steps.proofs.EveryCallLemmas.{softs-lt}

pub record IsQuiet (servers new : List ServerState) (owned new_owned : List ℕ)
    (changes : List Change) : Type 0 where
  pub same : new ≡ servers
  pub kept : new_owned ≡ owned
  pub none : changes ≡ []

pub record IsWritten (s : Settings) (call : Call) (servers new : List ServerState)
    (owned new_owned : List ℕ) (changes : List Change)
    : Type 0 where
  pub mark : Mark
  pub answer : Reply
  pub inside : call.server < length servers
  pub was : NamesOnly call.number (server_at servers call.server).mark
  pub only : NamesOnly call.number mark
  pub decides : transition s (has_room s servers call.server) call.number call.op
      (server_at servers call.server).mark
      (server_at servers call.server).stamp ≡ becomes mark answer
  pub wrote : new ≡ set servers call.server (record {
    mark = mark;
    stamp = (server_at servers call.server).stamp + 1;
  })
  pub gained : new_owned ≡ owned_with owned call.server mark
  pub change : changes ≡ change_by call answer ∷ []

abbrev pub Effect : Settings → Call → List ServerState → List ServerState → List ℕ → List ℕ
    → List Change → Type 0
Effect s call servers new owned new_owned changes =
    IsQuiet servers new owned new_owned changes
    ⊎ IsWritten s call servers new owned new_owned changes

module _ (core : CoreState) (thread : ℕ) (call : Call) (is : IsCore core)
    (inside : thread < length core.threads) (owned : List ℕ) where
  -- what the step of this phase does
  abbrev pub EffectOf : Phase → Type 0
  EffectOf phase =
      let action = action_of call.number phase in
      let read = seen_by core.settings core.shared call.server action in
      Effect core.settings call (abstract_of core)
      (shared_after core.settings core.shared call.server action).servers owned
      (owned_after_action owned call.server action (is_done read))
      (changes_by call phase (is_done read))

  -- an exchange; what it needs if it is won
  exchanges : (found : ServerState) (mark : Mark) (answer : Reply)
      → call.server < length (abstract_of core)
      → (server_at (abstract_of core) call.server ≡ found
      → NamesOnly call.number found.mark × NamesOnly call.number mark
      × (transition core.settings (has_room core.settings (abstract_of core) call.server)
      call.number call.op found.mark found.stamp ≡ becomes mark answer))
      → Effect core.settings call (abstract_of core)
      (cond (same_server (server_at (abstract_of core) call.server) found)
      (set (abstract_of core) call.server (record { mark = mark; stamp = found.stamp + 1 }))
      (abstract_of core))
      owned
      (cond (same_server (server_at (abstract_of core) call.server) found)
      (owned_with owned call.server mark) owned)
      (cond (same_server (server_at (abstract_of core) call.server) found)
      (change_by call answer ∷ []) [])
  exchanges found mark answer on_server won_facts =
      let servers = abstract_of core in
      let now = server_at servers call.server in
      let s = core.settings in
      let P : Bool → Type 0 = λ won. Effect s call servers
      (cond won (set servers call.server (record { mark = mark; stamp = found.stamp + 1 })) servers)
      owned
      (cond won (owned_with owned call.server mark) owned)
      (cond won (change_by call answer ∷ []) []) in
      elim (cases_Bool (same_server now found)) as (λ test. P (same_server now found)) [
        | inl won ↦
            let same = same_server-true now found won in
            let facts = won_facts same in
            let Q : ServerState → Type 0 = λ it. transition s (has_room s servers call.server)
            call.number call.op it.mark it.stamp ≡ becomes mark answer in
            let R : ServerState → Type 0 = λ it. NamesOnly call.number it.mark in
            subst P (sym won) (inr (record {
              mark = mark;
              answer = answer;
              inside = on_server;
              was = subst R (sym same) facts.0;
              only = facts.1;
              decides = subst Q (sym same) facts.2;
              wrote = ap (λ (it : ServerState). set servers call.server
                  (record { mark = mark; stamp = it.stamp + 1 })) (sym same);
              gained = refl;
              change = refl;
            }))
        | inr lost ↦ subst P (sym lost) (inl (record { same = refl; kept = refl; none = refl }))
      ]

  quiet : Effect core.settings call (abstract_of core) (abstract_of core) owned owned []
  quiet = inl (record { same = refl; kept = refl; none = refl })

  pub effect-of : (phase : Phase) → thread_at core thread ≡ InCall call phase
      → IsPlannedAt core.settings call phase → EffectOf phase
  effect-of Start stands planned = quiet
  effect-of (Read found mark answer) stands planned =
      let knows = knows_at core thread call is inside (Read found mark answer) stands in
      exchanges found mark answer knows.0 (λ same. (
        (free-found call.number found found found.mark refl refl
            (subst (λ it. IsFoundBy call.number it found found.mark) same knows.2.1)).0,
        owners-written call.number mark knows.2.0.own,
        planned (has_room core.settings (abstract_of core) call.server),
      ))
  effect-of (AtThreshold found) stands planned = quiet
  effect-of (Limit found) stands planned = quiet
  effect-of (Reserving found slots) stands planned =
      let P : Bool → Type 0 = λ won. Effect core.settings call (abstract_of core)
      (abstract_of core) owned owned (cond won [] []) in
      elim (cases_Bool (same_slots (slots_at core.shared.slots (group_of core.settings call.server))
      slots)) as (λ test.
      P (same_slots (slots_at core.shared.slots (group_of core.settings call.server)) slots)) [
        | inl won ↦ subst P (sym won) quiet
        | inr lost ↦ subst P (sym lost) quiet
      ]
  effect-of (Holding found) stands planned =
      let phase : Phase = Holding found in
      let knows = knows_at core thread call is inside phase stands in
      let s = core.settings in
      let servers = abstract_of core in
      let room : has_room s servers call.server ≡ true =
      lt-ltb (softs_beside s call.server servers) (limit_at s call.server)
      (softs-lt core thread call phase is inside stands refl refl) in
      exchanges found (Soft call.number) TookSoft knows.0 (λ same. (
        (free-fresh call.number found.mark knows.2.0).0,
        (λ other e. let both : call.number ≡ other = cc in sym both),
        planned (has_room s servers call.server)
            ∙ ap (λ it. cond it (becomes (Soft call.number) TookSoft) (stays Full)) room,
      ))
  effect-of Firming stands planned = quiet
  effect-of Losing stands planned = quiet
  effect-of (Loosening found mark answer) stands planned = quiet
  effect-of (Loosened found mark answer) stands planned =
      let knows = knows_at core thread call is inside (Loosened found mark answer) stands in
      exchanges found mark answer knows.0 (λ same. (
        (λ other owned_by. let both : Some call.number ≡ Some other = sym (ap owner_of knows.2.1)
            ∙ owned_by in let e : call.number ≡ other = cc in sym e),
        owners-written call.number mark knows.2.0.own,
        planned (has_room core.settings (abstract_of core) call.server),
      ))
  effect-of (Emptied answer) stands planned = quiet

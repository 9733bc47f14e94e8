-- What holds of the core is kept by the step of each phase.
use Rattle.std.proofs.Common.{◌≡◌, ℕ, ◌+◌, ◌-◌, ◌<◌, ◌≤◌, Bool, true, false, cond, List, length, get_or, set, Some, None, refl, sym, ap, ◌∙◌, subst, inl, inr, arith, length-set, get_or-set_same}
use Rattle.std.proofs.lemmas.Bool.{cases_Bool}
use Rattle.tko_model.specs.declared.mark.Mark.TheVariants.{Soft}
use Rattle.tko_model.specs.declared.mark.Reply.TheVariants as reply
use Rattle.tko_model.specs.declared.state.ServerState.{ServerState}
use Rattle.tko_model.specs.Groups.{group_of, limit_of}
use Rattle.tko_model.specs.Tracker.{IsFit, is_soft, server_at}
use Rattle.tko_steps.specs.declared.phase.Call.{Call}
use Rattle.tko_steps.specs.declared.phase.Phase.{Phase}
use Rattle.tko_steps.specs.declared.phase.Phase.TheVariants.{Start, Read, AtThreshold, Limit, Reserving, Holding, Firming, Losing, Loosening, Loosened, Emptied}
use Rattle.tko_steps.specs.declared.phase.Slots.{Slots}
use Rattle.tko_steps.specs.declared.phase.ThreadState.TheVariants.{NotEnrolled, InCall}
use Rattle.tko_steps.specs.declared.table.Decision.{Decision}
use Rattle.tko_steps.specs.declared.table.Decision.TheVariants.{Answers}
use Rattle.tko_steps.specs.Core.{CoreState, abstract_of, after_act, slots_at, thread_at}
use Rattle.tko_steps.specs.Owners.{owner_of}
use Rattle.tko_steps.specs.Steps.{decided_state}
use Rattle.tko_steps.specs.Invariant.{IsCore, IsThread, holds, holds_at, holds_in, is_loose, is_loose_at}
use Rattle.tko_steps.specs.Table.{goes, lost_try, same_server, same_slots}
use Rattle.tko_steps.proofs.CountLemmas.{AreCounts, bit, counts-same, counts-set, holds-own, unread}
use Rattle.tko_steps.proofs.ThreadLemmas.{one-le-count_by}
use Rattle.tko_steps.proofs.TableLemmas.{IsCalm, IsCalm-at_limit, IsCalm-at_threshold, IsCalm-from_start, IsCalm-lost_try, IsDecided, eq-same_server, same_server-true, same_slots-true}
use Rattle.tko_steps.proofs.KnownLemmas.{IsFreeFor}
use Rattle.tko_steps.proofs.CoreLemmas.{IsCore-slots, IsCore-written, group-there, one-le-firm, own-group}
use Rattle.tko_steps.proofs.PhaseLemmas.{IsThread-decided, decided_core, enrolled-after, exchanged_core, free-found, free-fresh, number-after, on-after, owners-written, soft-written, written, written_core}

module _ (core : CoreState) (thread : ℕ) (call : Call) (is : IsCore core) (inside : thread < length core.threads) where
  -- what the thread of this call knows
  pub knows_at : (phase : Phase) → thread_at core thread ≡ InCall call phase → IsThread core.settings (abstract_of core) (InCall call phase)
  knows_at phase stands = subst (IsThread core.settings (abstract_of core)) stands (is.calls thread NotEnrolled inside)

  -- the group of its server, the soft words, and that one of the group
  abbrev own_group : ℕ
  own_group = group_of core.settings call.server

  abbrev all_slots : List Slots
  all_slots = core.shared.slots

  abbrev own_slots : Slots
  own_slots = slots_at all_slots own_group

  -- these counts in the soft word of the group
  abbrev with_slots : Slots → List Slots
  with_slots now = set all_slots own_group now

  room-left : own_slots.firm + own_slots.held ≤ limit_of core.settings own_group
  room-left = (own-group core call.server is).room

  -- a step that leaves every health word, whose decision is that
  decided : (phase : Phase) (now : Slots) (slots : List Slots) (decision : Decision) → AreCounts all_slots own_group now slots
      → thread_at core thread ≡ InCall call phase
      → IsDecided core.settings call (server_at (abstract_of core) call.server) decision
      → now.held + bit (holds_at phase) ≡ own_slots.held + bit (holds (decided_state call decision))
      → now.firm + bit (is_loose (decided_state call decision)) ≡ own_slots.firm + bit (is_loose_at phase)
      → now.firm + now.held ≤ limit_of core.settings own_group
      → IsCore (decided_core core thread call slots decision)
  decided phase now slots decision counts stands knows held firm room =
      IsCore-slots core thread (InCall call phase) (decided_state call decision) is inside stands
      (enrolled-after call decision) (number-after call decision phase) call.server refl (on-after call decision) now slots counts
      (IsThread-decided core.settings (abstract_of core) call decision (knows_at phase stands).0 knows) held firm room

  -- the same, where the soft word stays
  same_slots_decided : (phase : Phase) (decision : Decision) → thread_at core thread ≡ InCall call phase
      → IsDecided core.settings call (server_at (abstract_of core) call.server) decision
      → own_slots.held + bit (holds_at phase) ≡ own_slots.held + bit (holds (decided_state call decision))
      → own_slots.firm + bit (is_loose (decided_state call decision)) ≡ own_slots.firm + bit (is_loose_at phase)
      → IsCore (decided_core core thread call all_slots decision)
  same_slots_decided phase decision stands knows held firm =
      decided phase own_slots all_slots decision (counts-same all_slots own_group) stands knows held firm room-left

  -- the same, where the soft word of the group is written
  shifted : (phase : Phase) (now : Slots) (decision : Decision) → thread_at core thread ≡ InCall call phase
      → IsDecided core.settings call (server_at (abstract_of core) call.server) decision
      → now.held + bit (holds_at phase) ≡ own_slots.held + bit (holds (decided_state call decision))
      → now.firm + bit (is_loose (decided_state call decision)) ≡ own_slots.firm + bit (is_loose_at phase)
      → now.firm + now.held ≤ limit_of core.settings own_group
      → IsCore (decided_core core thread call (with_slots now) decision)
  shifted phase now decision stands knows held firm room =
      decided phase now (with_slots now) decision (counts-set all_slots own_group now (group-there core call.server is)) stands knows
      held firm room

  -- the same, where no slot was held and none is
  calm : (phase : Phase) (decision : Decision) → thread_at core thread ≡ InCall call phase
      → holds_at phase ≡ false → is_loose_at phase ≡ false
      → IsCalm core.settings call (server_at (abstract_of core) call.server) decision
      → IsCore (decided_core core thread call all_slots decision)
  calm phase decision stands held loose next =
      same_slots_decided phase decision stands next.decided
      (omega (arith, ap bit held, ap bit next.holds)) (omega (arith, ap bit loose, ap bit next.loose))

  -- a try that is lost, where no slot was held
  lost : (phase : Phase) → thread_at core thread ≡ InCall call phase → holds_at phase ≡ false → is_loose_at phase ≡ false
      → IsCore (decided_core core thread call all_slots (lost_try core.settings call))
  lost phase stands held loose =
      calm phase (lost_try core.settings call) stands held loose
      (IsCalm-lost_try core.settings call (server_at (abstract_of core) call.server) (knows_at phase stands).1)

  -- an exchange that is won
  wrote : (phase : Phase) (now : ServerState) (decision : Decision) → thread_at core thread ≡ InCall call phase
      → IsFreeFor call.number (server_at (abstract_of core) call.server)
      → ((other : ℕ) → owner_of now.mark ≡ Some other → other ≡ call.number)
      → IsFit core.settings now.mark now.stamp
      → IsDecided core.settings call now decision
      → bit (holds (decided_state call decision)) ≡ bit (holds_at phase)
      → bit (is_soft now.mark) + bit (is_loose_at phase)
      ≡ bit (is_soft (server_at (abstract_of core) call.server).mark) + bit (is_loose (decided_state call decision))
      → IsCore (written_core core thread call now decision)
  wrote phase now decision stands free owned fit knows held soft =
      let servers = abstract_of core in
      let on_server = (knows_at phase stands).0 in
      let here : server_at (set servers call.server now) call.server ≡ now = get_or-set_same servers call.server now unread on_server in
      let there : call.server < length (set servers call.server now) = rw length-set on_server in
      let P : ServerState → Type 0 = λ it. IsDecided core.settings call it decision in
      IsCore-written core thread (InCall call phase) (decided_state call decision) is inside stands
      (enrolled-after call decision) (number-after call decision phase) call.server refl (on-after call decision) call.number now refl
      on_server free owned fit
      (IsThread-decided core.settings (set servers call.server now) call decision there (subst P (sym here) knows))
      held soft

  -- a slot is held by the thread that holds it
  pub one-le-held : (phase : Phase) → thread_at core thread ≡ InCall call phase → holds_at phase ≡ true → 0 < own_slots.held
  one-le-held phase stands held =
      let mine : holds_in core.settings own_group (get_or core.threads thread NotEnrolled) ≡ true =
      ap (holds_in core.settings own_group) stands ∙ holds-own core.settings call.server (InCall call phase) refl ∙ held in
      let one = one-le-count_by (holds_in core.settings own_group) core.threads thread NotEnrolled inside mine in
      omega (arith, one, (own-group core call.server is).held)

  -- what its step leaves, at each phase
  pub IsCore-after_act : (phase : Phase) → thread_at core thread ≡ InCall call phase → IsCore (after_act core thread call phase)
  IsCore-after_act Start stands =
      let knows = knows_at Start stands in
      calm Start _ stands refl refl
      (IsCalm-from_start core.settings call (server_at (abstract_of core) call.server) is.settings knows.1 (is.fit call.server unread knows.0))
  IsCore-after_act (Read found mark answer) stands =
      let phase : Phase = Read found mark answer in
      let knows = knows_at phase stands in
      let now = server_at (abstract_of core) call.server in
      let P : Bool → Type 0 = λ won.
      IsCore (exchanged_core core thread call (written found mark) (Answers answer) (lost_try core.settings call) won) in
      elim (cases_Bool (same_server now found)) as (λ test. P (same_server now found)) [
        | inl won ↦
            let same = same_server-true now found won in
            let free = free-found call.number now found found.mark refl same knows.2.1 in
            subst P (sym won) (wrote phase (written found mark) (Answers answer) stands free.0
            (owners-written call.number mark knows.2.0.own) knows.2.0.fit tt refl
            (omega (arith, ap bit (soft-written call.number mark knows.2.0.own), ap bit free.1)))
        | inr lost_it ↦ subst P (sym lost_it) (lost phase stands refl refl)
      ]
  IsCore-after_act (AtThreshold found) stands =
      let knows = knows_at (AtThreshold found) stands in
      calm (AtThreshold found) _ stands refl refl
      (IsCalm-at_threshold core.settings call (server_at (abstract_of core) call.server) is.settings knows.1 found own_slots
      knows.2.0 knows.2.1 room-left)
  IsCore-after_act (Limit found) stands =
      let knows = knows_at (Limit found) stands in
      calm (Limit found) _ stands refl refl
      (IsCalm-at_limit core.settings call (server_at (abstract_of core) call.server) is.settings knows.1 found)
  IsCore-after_act (Reserving found slots) stands =
      let phase : Phase = Reserving found slots in
      let knows = knows_at phase stands in
      let now = own_slots in
      let one_more : Slots = record { firm = now.firm; held = now.held + 1 } in
      let P : Bool → Type 0 = λ won.
      IsCore (decided_core core thread call (cond won (with_slots one_more) all_slots) (cond won (goes call (Holding found)) (lost_try core.settings call))) in
      elim (cases_Bool (same_slots now slots)) as (λ test. P (same_slots now slots)) [
        | inl won ↦
            let same = same_slots-true now slots won in
            subst P (sym won) (shifted phase one_more (goes call (Holding found)) stands (knows.1, knows.2.0) (omega arith) refl
            (omega (arith, same.0, same.1, knows.2.1)))
        | inr lost_it ↦ subst P (sym lost_it) (lost phase stands refl refl)
      ]
  IsCore-after_act (Holding found) stands =
      let phase : Phase = Holding found in
      let knows = knows_at phase stands in
      let now = server_at (abstract_of core) call.server in
      let P : Bool → Type 0 = λ won.
      IsCore (exchanged_core core thread call (written found (Soft call.number)) (goes call Firming) (goes call Losing) won) in
      elim (cases_Bool (same_server now found)) as (λ test. P (same_server now found)) [
        | inl won ↦
            let same = same_server-true now found won in
            let unmarked : owner_of now.mark ≡ None = ap (λ (it : ServerState). owner_of it.mark) same ∙ knows.2.0 in
            let free = free-fresh call.number now.mark unmarked in
            subst P (sym won) (wrote phase (written found (Soft call.number)) (goes call Firming) stands free.0
            (λ other e. let both : call.number ≡ other = cc in sym both) (omega (arith, knows.2.1)) (knows.1, refl) refl
            (omega (arith, ap bit free.1)))
        | inr lost_it ↦
            subst P (sym lost_it) (same_slots_decided phase (goes call Losing) stands (knows.1, tt) refl refl)
      ]
  IsCore-after_act Firming stands =
      let one = one-le-held Firming stands refl in
      shifted Firming (record { firm = own_slots.firm + 1; held = own_slots.held - 1 }) (Answers reply.TookSoft) stands tt
      (omega arith) (omega arith) (omega (arith, room-left))
  IsCore-after_act Losing stands =
      let one = one-le-held Losing stands refl in
      let knows = knows_at Losing stands in
      let next = IsCalm-lost_try core.settings call (server_at (abstract_of core) call.server) knows.1 in
      shifted Losing (record { firm = own_slots.firm; held = own_slots.held - 1 }) (lost_try core.settings call) stands
      next.decided (omega (arith, ap bit next.holds)) (omega (arith, ap bit next.loose)) (omega (arith, room-left))
  IsCore-after_act (Loosening found mark answer) stands =
      let phase : Phase = Loosening found mark answer in
      let knows = knows_at phase stands in
      let one = one-le-firm core thread call found mark answer is inside stands in
      shifted phase (record { firm = own_slots.firm - 1; held = own_slots.held + 1 }) (goes call (Loosened found mark answer)) stands
      (knows.1, knows.2) (omega arith) (omega arith) (omega (arith, room-left))
  IsCore-after_act (Loosened found mark answer) stands =
      let phase : Phase = Loosened found mark answer in
      let knows = knows_at phase stands in
      let now = server_at (abstract_of core) call.server in
      let here : now.mark ≡ Soft call.number = ap (λ (it : ServerState). it.mark) knows.2.2 ∙ knows.2.1 in
      let P : Bool → Type 0 = λ won. IsCore (record {
        settings = core.settings;
        shared = record {
          servers = cond won (set (abstract_of core) call.server (written found mark)) (abstract_of core);
          slots = core.shared.slots;
          enrolled = core.shared.enrolled;
        };
        threads = set core.threads thread (decided_state call (goes call (Emptied answer)));
      }) in
      subst P (sym (eq-same_server now found knows.2.2)) (wrote phase (written found mark) (goes call (Emptied answer)) stands
      (λ other owned. let both : Some call.number ≡ Some other = sym (ap owner_of here) ∙ owned in let e : call.number ≡ other = cc in sym e)
      (owners-written call.number mark knows.2.0.own) knows.2.0.fit (knows.1, tt) refl
      (omega (arith, ap bit (soft-written call.number mark knows.2.0.own), ap (λ it. bit (is_soft it)) here)))
  IsCore-after_act (Emptied answer) stands =
      let one = one-le-held (Emptied answer) stands refl in
      shifted (Emptied answer) (record { firm = own_slots.firm; held = own_slots.held - 1 }) (Answers answer) stands tt
      (omega arith) (omega arith) (omega (arith, room-left))

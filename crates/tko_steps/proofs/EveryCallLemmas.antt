-- The law of every call of a run: what each phase knows is kept by a step of its own.
use Rattle.std.proofs.Common.{◌≡◌, ℕ, ◌+◌, ◌<◌, ◌≤◌, Bool, true, false, cond, eqb, List, length, set, inl, inr, ⊎_elim, refl, sym, ap, ◌∙◌, subst, arith, get_or-set_same, get_or-set_other}
use Rattle.std.proofs.lemmas.Bool.{cases_Bool, cases_eq, cond_both, eqb-true, lt-ltb}
use Rattle.std.proofs.lemmas.List.Sums.{sum_by-le-sum_by}
use Rattle.tko_model.specs.declared.mark.Mark.{Mark}
use Rattle.tko_model.specs.declared.mark.Mark.TheVariants.{Soft}
use Rattle.tko_model.specs.declared.mark.Reply.TheVariants.{Full, TookSoft}
use Rattle.tko_model.specs.declared.state.ServerState.{ServerState}
use Rattle.tko_model.specs.Groups.{group_of, groups, limit_at, limit_of}
use Rattle.tko_model.specs.Tracker.{becomes, has_room, server_at, softs_beside, softs_in, stays}
use Rattle.tko_model.proofs.GroupLemmas.{group_of-lt}
use Rattle.tko_steps.specs.declared.phase.Call.{Call as CallState}
use Rattle.tko_steps.specs.declared.phase.Phase.{Phase}
use Rattle.tko_steps.specs.declared.phase.Phase.TheVariants.{Start, Read, AtThreshold, Limit, Reserving, Holding, Firming, Losing, Loosening, Loosened, Emptied}
use Rattle.tko_steps.specs.declared.phase.ThreadState.{ThreadState}
use Rattle.tko_steps.specs.declared.phase.ThreadState.TheVariants.{NotEnrolled, InCall}
use Rattle.tko_steps.specs.declared.table.Action.{Action}
use Rattle.tko_steps.specs.declared.table.Action.TheVariants.{LookAtServer, LookAtSlots, Exchange, Reserve, Settle, Loosen, Give}
use Rattle.tko_steps.specs.declared.table.Decision.{Decision}
use Rattle.tko_steps.specs.declared.table.Decision.TheVariants.{Answers}
use Rattle.tko_steps.specs.Runs.{OwnStep, and_step}
use Rattle.tko_steps.specs.Core.{CoreState, abstract_of, after_act, follows, servers_after, slots_at, thread_at}
use Rattle.tko_steps.specs.Invariant.{IsCore, holds_at, holds_in, is_loose_at, is_loose_in}
use Rattle.tko_steps.specs.Table.{goes, lost_try, same_server, same_slots}
use Rattle.tko_steps.proofs.CountLemmas.{bit, holds-own, loose-own, unread}
use Rattle.tko_steps.proofs.SoftMarkLemmas.{loose-le-holds}
use Rattle.tko_steps.proofs.CoreLemmas.{own-group}
use Rattle.tko_steps.proofs.PhaseLemmas.{written}
use Rattle.tko_steps.proofs.PhaseStepLemmas.{knows_at}
use Rattle.tko_steps.proofs.LegalLemmas.{done-before, open_call, sound-answered}
use Rattle.tko_steps.proofs.SoFarLemmas.{IsNotNewer, Knows, Told, done-write, still_quiet, told-full, told-limit, told-lost, told-start, with_decision}
use Rattle.tko_steps.proofs.OwnLemmas.{act_step, exchange_step}
use Rattle.tko_steps.proofs.TableLemmas.{eq-same_server, same_server-true}
use Rattle.tko_steps.proofs.ThreadLemmas.{count_by-moved}

-- ---- the limit

pub softs_in-le : (core : CoreState) (group : ℕ) → IsCore core → group < groups core.settings
    → softs_in core.settings group (abstract_of core) ≤ limit_of core.settings group
softs_in-le core group is below =
    let s = core.settings in
    let mine = is.counts group below in
    let le = sum_by-le-sum_by (λ it. bit (is_loose_in s group it)) (λ it. bit (holds_in s group it)) core.threads (loose-le-holds s group) in
    omega (arith, mine.firm, mine.held, mine.room, le)

-- in the group of a server
pub softs-le : (core : CoreState) (server : ℕ) → IsCore core
    → softs_beside core.settings server (abstract_of core) ≤ limit_at core.settings server
softs-le core server is = softs_in-le core (group_of core.settings server) is (group_of-lt core.settings server is.settings)

-- while a call holds a slot for a mark that it has yet to make, there is room for it
pub softs-lt : (core : CoreState) (thread : ℕ) (call : CallState) (phase : Phase) → IsCore core → thread < length core.threads
    → thread_at core thread ≡ InCall call phase → holds_at phase ≡ true → is_loose_at phase ≡ false
    → softs_beside core.settings call.server (abstract_of core) < limit_at core.settings call.server
softs-lt core thread call phase is inside stands held firm =
    let s = core.settings in
    let group = group_of s call.server in
    let state : ThreadState = InCall call phase in
    let mine = own-group core call.server is in
    let others = set core.threads thread NotEnrolled in
    let le = sum_by-le-sum_by (λ it. bit (is_loose_in s group it)) (λ it. bit (holds_in s group it)) others (loose-le-holds s group) in
    let holding = count_by-moved (holds_in s group) core.threads thread state NotEnrolled inside stands in
    let loose = count_by-moved (is_loose_in s group) core.threads thread state NotEnrolled inside stands in
    let one : bit (holds_in s group state) ≡ 1 = ap bit (holds-own s call.server state refl ∙ held) in
    let none : bit (is_loose_in s group state) ≡ 0 = ap bit (loose-own s call.server state refl ∙ firm) in
    omega (arith, mine.firm, mine.held, mine.room, le, holding, loose, one, none)

-- ---- the words move on

exchange-on : (servers : List ServerState) (server : ℕ) (found : ServerState) (mark : Mark) (won : Bool) → server < length servers
    → (won ≡ true → server_at servers server ≡ found)
    → (at : ℕ) → IsNotNewer (server_at servers at) (server_at (cond won (set servers server (written found mark)) servers) at)
exchange-on servers server found mark false inside same at = inl refl
exchange-on servers server found mark true inside same at =
    let new = written found mark in
    let P : ServerState → Type 0 = λ it. IsNotNewer (server_at servers at) it in
    ⊎_elim
    (λ (here : at ≡ server).
    let now : server_at (set servers server new) at ≡ new = rw here (get_or-set_same servers server new unread inside) in
    let was : (server_at servers at).stamp ≡ found.stamp = ap (λ i. (server_at servers i).stamp) here ∙ ap (λ (it : ServerState). it.stamp) (same refl) in
    subst P (sym now) (inr (omega (arith, was))))
    (λ (apart : at ≡ server → ⊥). subst P (sym (get_or-set_other servers server at new unread apart)) (inl refl))
    (cases_eq at server)

-- a step leaves each server's word, or one with a newer stamp
pub step-on : (servers : List ServerState) (server : ℕ) (action : Action) → server < length servers
    → (at : ℕ) → IsNotNewer (server_at servers at) (server_at (servers_after servers server action) at)
step-on servers server LookAtServer inside at = inl refl
step-on servers server LookAtSlots inside at = inl refl
step-on servers server (Exchange found mark) inside at =
    let now = server_at servers server in
    exchange-on servers server found mark (same_server now found) inside (same_server-true now found) at
step-on servers server (Reserve slots) inside at = inl refl
step-on servers server Settle inside at = inl refl
step-on servers server Loosen inside at = inl refl
step-on servers server Give inside at = inl refl

module _ (core : CoreState) (thread : ℕ) (call : CallState) (is : IsCore core) (inside : thread < length core.threads) where
  abbrev servers : List ServerState
  servers = abstract_of core

  abbrev now : ServerState
  now = server_at servers call.server

  -- ---- what the step of each phase leaves its call

  module _ (steps : List OwnStep) (number : ℕ) where
    -- the step of this phase, its decision and the words after it
    abbrev ToldBy : Phase → Type 0
    ToldBy phase =
        Told core.settings thread call steps number (act_step core thread call phase)
        (server_at (abstract_of (after_act core thread call phase)) call.server) (follows core call phase)

    -- the same of an exchange, by whether it is won
    abbrev ToldExchange : ServerState → Mark → (Bool → Decision) → Bool → Type 0
    ToldExchange found mark decide won =
        Told core.settings thread call steps number (exchange_step core thread call found mark decide won)
        (server_at (cond won (set servers call.server (written found mark)) servers) call.server) (decide won)

    pub told-act : (phase : Phase) → thread_at core thread ≡ InCall call phase → Knows core.settings thread call steps now phase → ToldBy phase
    told-act Start stands knows =
        told-start core.settings thread call steps number (act_step core thread call Start) refl knows (softs-le core call.server is)
    told-act (Read found mark answer) stands knows =
        let s = core.settings in
        let decide = λ (won : Bool). cond won (Answers answer) (lost_try s call) in
        let P : Bool → Type 0 = ToldExchange found mark decide in
        elim (cases_Bool (same_server now found)) as (λ test. P (same_server now found)) [
          | inl won ↦
              let base = exchange_step core thread call found mark decide true in
              let same = same_server-true now found won in
              subst P (sym won)
              (sound-answered s (and_step (open_call thread call steps) (with_decision number base (Answers answer))) answer refl
              (done-write s thread call steps number base (Answers answer) found mark answer knows.0
              (knows.1 (has_room s servers call.server)) same refl (softs-le core call.server is)))
          | inr lost ↦
              subst P (sym lost) (told-lost s thread call steps number (exchange_step core thread call found mark decide false) now refl knows.0)
        ]
    told-act (AtThreshold found) stands knows =
        let s = core.settings in
        let base = act_step core thread call (AtThreshold found) in
        let slots = slots_at core.shared.slots (group_of s call.server) in
        let limit = limit_at s call.server in
        let P : Decision → Type 0 = Told s thread call steps number base now in
        let goes_on : Decision = goes call (Reserving found slots) in
        cond_both (eqb slots.firm limit) (goes call (Limit found)) (cond (eqb (slots.firm + slots.held) limit) (lost_try s call) goes_on) P
        (λ full.
        told-limit s thread call steps number base found call.lost refl knows.0 knows.1 knows.2
        (let firm = eqb-true slots.firm limit full in let le = softs-le core call.server is in omega (arith, firm, le, (own-group core call.server is).firm)))
        (λ room.
        cond_both (eqb (slots.firm + slots.held) limit) (lost_try s call) goes_on P
        (λ held. told-lost s thread call steps number base now refl knows.0)
        (λ left. (still_quiet s thread call steps number base goes_on refl knows.0, knows.1)))
    told-act (Limit found) stands knows =
        let s = core.settings in
        let base = act_step core thread call (Limit found) in
        cond_both (same_server found now) (Answers Full) (lost_try s call) (Told s thread call steps number base now)
        (λ same. told-full s thread call steps number base found now refl knows.0 knows.1 knows.2 (same_server-true found now same))
        (λ other. told-lost s thread call steps number base now refl knows.0)
    told-act (Reserving found slots) stands knows =
        let s = core.settings in
        let base = act_step core thread call (Reserving found slots) in
        cond_both (same_slots (slots_at core.shared.slots (group_of s call.server)) slots) (goes call (Holding found)) (lost_try s call) (Told s thread call steps number base now)
        (λ won. (still_quiet s thread call steps number base (goes call (Holding found)) refl knows.0, knows.1))
        (λ lost. told-lost s thread call steps number base now refl knows.0)
    told-act (Holding found) stands knows =
        let s = core.settings in
        let decide = λ (won : Bool). cond won (goes call Firming) (goes call Losing) in
        let P : Bool → Type 0 = ToldExchange found (Soft call.number) decide in
        let room : has_room s servers call.server ≡ true =
        lt-ltb (softs_beside s call.server servers) (limit_at s call.server)
        (softs-lt core thread call (Holding found) is inside stands refl refl) in
        elim (cases_Bool (same_server now found)) as (λ test. P (same_server now found)) [
          | inl won ↦
              let base = exchange_step core thread call found (Soft call.number) decide true in
              let same = same_server-true now found won in
              subst P (sym won)
              (done-write s thread call steps number base (goes call Firming) found (Soft call.number) TookSoft knows.0
              (knows.1 (has_room s servers call.server) ∙ ap (λ it. cond it (becomes (Soft call.number) TookSoft) (stays Full)) room)
              same refl (softs-le core call.server is))
          | inr lost ↦
              subst P (sym lost)
              (still_quiet s thread call steps number (exchange_step core thread call found (Soft call.number) decide false) (goes call Losing) refl knows.0)
        ]
    told-act Firming stands knows =
        let own = with_decision number (act_step core thread call Firming) (Answers TookSoft) in
        let opened = open_call thread call steps in
        sound-answered core.settings (and_step opened own) TookSoft refl (done-before core.settings opened own TookSoft knows refl)
    told-act Losing stands knows =
        told-lost core.settings thread call steps number (act_step core thread call Losing) now refl knows
    told-act (Loosening found mark answer) stands knows =
        let phase : Phase = Loosening found mark answer in
        (still_quiet core.settings thread call steps number (act_step core thread call phase) (goes call (Loosened found mark answer)) refl knows.0, knows.1)
    told-act (Loosened found mark answer) stands knows =
        let s = core.settings in
        let decide = λ (won : Bool). goes call (Emptied answer) in
        let P : Bool → Type 0 = ToldExchange found mark decide in
        let base = exchange_step core thread call found mark decide true in
        subst P (sym (eq-same_server now found (knows_at core thread call is inside (Loosened found mark answer) stands).2.2))
        (done-write s thread call steps number base (goes call (Emptied answer)) found mark answer knows.0
        (knows.1 (has_room s servers call.server)) (knows_at core thread call is inside (Loosened found mark answer) stands).2.2 refl (softs-le core call.server is))
    told-act (Emptied answer) stands knows =
        let own = with_decision number (act_step core thread call (Emptied answer)) (Answers answer) in
        let opened = open_call thread call steps in
        sound-answered core.settings (and_step opened own) answer refl (done-before core.settings opened own answer knows refl)

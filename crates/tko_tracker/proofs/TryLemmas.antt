-- The tries of a call of running threads: the lemmas on a call of a run, step by step, whatever
-- happened between its steps.
use Rattle.std.proofs.Common.{◌≡◌, ℕ, ◌+◌, ◌<◌, ◌≤◌, Bool, true, false, cond, ltb, eqb, List, []}
use Rattle.std.proofs.Common.{◌∷◌, length, count_by, Some, inl, inr, refl, sym, ap, ◌∙◌, subst}
use Rattle.std.proofs.Common.{arith}
use Rattle.std.proofs.lemmas.Bool.{and_left, and_parts, eqb-true, lt-ltb, ltb-true}
use Rattle.tko_model.specs.declared.mark.Mark.{Mark}
use Rattle.tko_model.specs.declared.mark.Mark.TheVariants.{Soft}
use Rattle.tko_model.specs.Settings.{Settings}
use Rattle.tko_model.specs.declared.state.ServerState.{ServerState}
use Rattle.tko_steps.specs.declared.phase.Call.{Call}
use Rattle.tko_steps.specs.declared.phase.Phase.{Phase}
use Rattle.tko_steps.specs.declared.phase.Phase.TheVariants.{Start, Read, AtThreshold, Limit}
use Rattle.tko_steps.specs.declared.phase.Phase.TheVariants.{Reserving, Holding, Firming, Losing}
use Rattle.tko_steps.specs.declared.phase.Phase.TheVariants.{Loosening, Loosened, Emptied}
use Rattle.tko_steps.specs.declared.phase.Slots.{Slots}
use Rattle.tko_steps.specs.declared.phase.ThreadState.{ThreadState}
use Rattle.tko_steps.specs.declared.phase.ThreadState.TheVariants.{NotEnrolled, InCall}
use Rattle.tko_steps.specs.declared.step.Place.TheVariants as place
use Rattle.tko_steps.specs.declared.step.Stepped.TheVariants.{NoThread}
use Rattle.tko_steps.specs.declared.table.Decision.{Decision}
use Rattle.tko_steps.specs.declared.table.Decision.TheVariants.{Goes, Answers}
use Rattle.tko_steps.specs.Core.{CoreState, abstract_of, after_step_from, follows, reported_from}
use Rattle.tko_steps.specs.Core.{thread_at, slots_at}
use Rattle.tko_steps.specs.Invariant.{IsCore, holds_in}
use Rattle.tko_steps.specs.Lost.{IsChangedSince, IsSlotOfOther, finds_no_slot, is_look}
use Rattle.tko_steps.specs.Runs.{OwnStep, Took, World, steps_in, with_reported}
use Rattle.tko_steps.specs.Steps.{decided_answer, kind_of_exchange, step_kind}
use Rattle.tko_steps.specs.Table.{action_of}
use Rattle.tko_steps.proofs.FamilyLemmas.{Follows, act_own}
use Rattle.tko_steps.proofs.LoserLemmas.{passes-count_by}
use Rattle.tko_steps.proofs.LostLemmas.{HasCounted, HasLooked, IsTried, KnowsTries, Tries}
use Rattle.tko_steps.proofs.LostStepLemmas.{tries-act}
use Rattle.tko_steps.proofs.OwnLemmas.{act_step}
use Rattle.tko_steps.proofs.TryLemmas.{exchange-not_look}
use Rattle.tko_steps.proofs.WiringLemmas.{stepped_from}
use Rattle.tko_tracker.specs.Tries.{HasTried, IsTurn}
use Rattle.tko_model.specs.Groups.{group_of, limit_of}
use Rattle.tko_steps.proofs.CoreLemmas.{own-group}
use Rattle.tko_tracker.proofs.PastLemmas.{count-act, past_of, steps-looks}

-- ---- the turn of a thread

-- the turn of a thread whose call is at this phase
pub turn-is : (core : CoreState) (thread : ℕ) (call : Call) (phase : Phase)
    → thread < length core.threads → thread_at core thread ≡ InCall call phase
    → IsTurn core thread (act_step core thread call phase)
turn-is core thread call phase inside stands =
    let P : Bool → ThreadState → Type 0 = λ test state.
    with_reported [] thread
    (abstract_of core) (abstract_of (cond test (after_step_from core thread state) core))
    (cond test (reported_from core state) NoThread)
    ≡ Took (act_step core thread call phase) ∷ [] in
    subst (λ test. P test (thread_at core thread))
    (sym (lt-ltb thread (length core.threads) inside)) (subst (P true) (sym stands) refl)

no-slot-exchange : (s : Settings) (core : CoreState) (thread : ℕ) (call : Call) (phase : Phase)
    (found new : Mark)
    → step_kind (action_of call.number phase) ≡ kind_of_exchange found new
    → finds_no_slot s (act_step core thread call phase) ≡ false
no-slot-exchange s core thread call phase found new is =
    and_left _ _ (ap is_look is ∙ exchange-not_look found new)

-- a look that finds no slot left finds one that another thread holds
pub slot-held : (s : Settings) (core : CoreState) (thread : ℕ) (call : Call) (phase : Phase)
    → IsCore core → thread_at core thread ≡ InCall call phase
    → core.settings ≡ s → (group : ℕ) → (act_step core thread call phase).place ≡ place.Soft group
    → finds_no_slot s (act_step core thread call phase) ≡ true → IsSlotOfOther core thread group
slot-held s core thread call Start is stands under group at e = cc
slot-held s core thread call (Read found mark answer) is stands under group at e =
    let no = no-slot-exchange s core thread call (Read found mark answer) found.mark mark refl in cc
slot-held s core thread call (AtThreshold found) is stands under group at e =
    let it = core.settings in
    let own = group_of it call.server in
    let slots = slots_at core.shared.slots own in
    let same : own ≡ group = cc in
    let here : finds_no_slot it (act_step core thread call (AtThreshold found)) ≡ true =
    ap (λ (settings : Settings).
    finds_no_slot settings (act_step core thread call (AtThreshold found))) under ∙ e in
    let parts = and_parts (ltb slots.firm (limit_of it own))
    (eqb (slots.firm + slots.held) (limit_of it own)) here in
    let below = ltb-true slots.firm (limit_of it own) parts.0 in
    let all = eqb-true (slots.firm + slots.held) (limit_of it own) parts.1 in
    let one : 1 ≤ count_by (holds_in it own) core.threads =
    omega (arith, below, all, (own-group core call.server is).held) in
    let found_one = passes-count_by (holds_in it own) core.threads NotEnrolled one in
    subst (IsSlotOfOther core thread) same (record {
      holder = found_one.at;
      other = λ same.
          let mine : holds_in it own (thread_at core thread) ≡ true =
          ap (λ at. holds_in it own (thread_at core at)) (sym same) ∙ found_one.passes in
          let none : holds_in it own (thread_at core thread) ≡ false =
          ap (holds_in it own) stands in
          cc;
      holds = found_one.passes;
    })
slot-held s core thread call (Limit found) is stands under group at e = cc
slot-held s core thread call (Reserving found slots) is stands under group at e = cc
slot-held s core thread call (Holding found) is stands under group at e =
    let no =
    no-slot-exchange s core thread call (Holding found) found.mark (Soft call.number) refl in cc
slot-held s core thread call Firming is stands under group at e = cc
slot-held s core thread call Losing is stands under group at e = cc
slot-held s core thread call (Loosening found mark answer) is stands under group at e = cc
slot-held s core thread call (Loosened found mark answer) is stands under group at e =
    let no =
    no-slot-exchange s core thread call (Loosened found mark answer) found.mark mark refl in cc
slot-held s core thread call (Emptied answer) is stands under group at e = cc

-- ---- what is known of the tries, whatever others did since

abbrev pub KnowsAnywhere : Settings → Call → List OwnStep → Phase → Type 0
KnowsAnywhere s call steps phase =
    (w : World) (thread : ℕ) → IsChangedSince thread (place.Server call.server) w.past
    → IsChangedSince thread (place.Soft (group_of s call.server)) w.past
    → KnowsTries s w thread call steps phase

pub begins-anywhere : (s : Settings) (call : Call) → call.lost ≡ 0 → KnowsAnywhere s call [] Start
begins-anywhere s call none w thread server soft =
    (tt, record { count = sym none; holds = refl; looked = refl })

module _ (s : Settings) (w new : World) (thread other : ℕ) (call : Call) (steps : List OwnStep)
    (server : IsChangedSince other (place.Server call.server) new.past)
    (soft : IsChangedSince other (place.Soft (group_of s call.server)) new.past) where
  looked : (held : Bool) (found : ServerState)
      → HasLooked s w thread call.server call.lost steps held found
      → HasLooked s new other call.server call.lost steps held found
  looked held found has =
      record { count = has.count; holds = has.holds; looked = has.looked; since = inr server }

  counted : (slots : Slots) → HasCounted s w thread (group_of s call.server) steps slots
      → HasCounted s new other (group_of s call.server) steps slots
  counted slots has = record { looked = has.looked; since = inr soft }

  elsewhere : (phase : Phase) → Tries s w thread call steps phase
      → Tries s new other call steps phase
  elsewhere Start knows = knows
  elsewhere (Read found mark answer) knows = (looked false found knows.0, knows.1)
  elsewhere (AtThreshold found) knows = looked false found knows
  elsewhere (Limit found) knows = looked false found knows
  elsewhere (Reserving found slots) knows = (looked false found knows.0, counted slots knows.1)
  elsewhere (Holding found) knows = looked true found knows
  elsewhere Firming knows = tt
  elsewhere Losing knows = knows
  elsewhere (Loosening found mark answer) knows = (looked false found knows.0, knows.1)
  elsewhere (Loosened found mark answer) knows = (looked true found knows.0, knows.1)
  elsewhere (Emptied answer) knows = knows

-- what an answer says of the tries, or the next phase
abbrev pub TriedAfter : Settings → Call → List OwnStep → Decision → Type 0
TriedAfter s call steps (Goes lost phase) =
    KnowsAnywhere s (record call { lost = lost }) steps phase
TriedAfter s call steps (Answers answer) = HasTried s answer steps

module _ (s : Settings) (core : CoreState) (thread : ℕ) (call : Call) (phase : Phase)
    (steps : List OwnStep) (n : ℕ) (is : IsCore core)
    (inside : thread < length core.threads) (stands : thread_at core thread ≡ InCall call phase)
    (settings : core.settings ≡ s)
    (knows : KnowsAnywhere s call steps phase) where
  abbrev world : World
  world = record { core = core; past = past_of thread call.server (group_of s call.server) n }

  abbrev own : OwnStep
  own = record { at = n + 1; step = act_step core thread call phase }

  apart : thread + 1 ≡ thread → ⊥
  apart e = omega (arith, e)

  server-changed : IsChangedSince thread (place.Server call.server) world.past
  server-changed = inl (record { other = apart; place = refl; changed = λ e. cc })

  soft-changed : IsChangedSince thread (place.Soft (group_of s call.server)) world.past
  soft-changed = inr (refl, inl (record { other = apart; place = refl; changed = λ e. cc }))

  own-is : act_own world thread call phase ≡ own
  own-is = λ i. record { at = number i; step = act_step core thread call phase }
    where
      number : steps_in (Took (act_step core thread call phase) ∷ world.past) ≡ n + 1
      number = omega (arith, steps-looks n, count-act call phase)

  knows-here : KnowsTries core.settings world thread call steps phase
  knows-here = subst (λ it. KnowsTries it world thread call steps phase) (sym settings)
      (knows world thread server-changed soft-changed)

  after-by : (decision : Decision) (new : World) → follows core call phase ≡ decision
      → Follows s (KnowsTries s) (IsTried s) new thread call steps own decision
      → TriedAfter s call (own ∷ steps) decision
  after-by (Goes lost next) new decides follow =
      λ w other server soft. (
        follow.0,
        elsewhere s new w thread other (record call { lost = lost })
            (own ∷ steps) server soft next follow.1,
      )
  after-by (Answers answer) new decides follow =
      record {
        contended = λ e. follow.0 (ap decided_answer decides ∙ ap Some e);
        expects = follow.1;
      }

  pub tried-next : TriedAfter s call (own ∷ steps) (follows core call phase)
  tried-next =
      let next = tries-act world thread call steps is inside phase stands knows-here in
      let decision = follows core call phase in
      let P : Settings → Type 0 =
      λ it. Follows it (KnowsTries it) (IsTried it) (stepped_from world thread
      (InCall call phase)) thread call steps (act_own world thread call phase) decision in
      let Q : OwnStep → Type 0 = λ it. Follows s (KnowsTries s) (IsTried s)
      (stepped_from world thread (InCall call phase)) thread call steps it decision in
      after-by decision (stepped_from world thread (InCall call phase)) refl
      (subst Q own-is (subst P settings next))

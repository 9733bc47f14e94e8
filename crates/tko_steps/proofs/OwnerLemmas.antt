-- The responsible thread's calls: a call that finds its thread's own mark loses no try, and its server is not worn for it.
use Rattle.std.proofs.Common.{◌≡◌, ◌≢◌, ℕ, ◌+◌, ◌<◌, true, false, cond, ◌&&◌, eqb, List, [], ◌∷◌, length, All, Option, Some, None, refl, sym, ap, ◌∙◌}
use Rattle.std.proofs.lemmas.Bool.{cond_both}
use Rattle.std.proofs.lemmas.List.Elements.{All-nil, All-cons, All-weaker}
use Rattle.tko_model.specs.declared.mark.Mark.{Mark}
use Rattle.tko_model.specs.declared.mark.Mark.TheVariants.{Up, Soft, Hard}
use Rattle.tko_model.specs.declared.mark.Reply.{Reply}
use Rattle.tko_model.specs.declared.mark.Reply.TheVariants.{Contended, Full, TookSoft, Worn}
use Rattle.tko_model.specs.Settings.{Settings}
use Rattle.tko_model.specs.declared.state.ServerState.{ServerState}
use Rattle.tko_model.specs.Tracker.{server_at}
use Rattle.tko_steps.specs.declared.phase.Call.{Call as CallState}
use Rattle.tko_steps.specs.declared.phase.Phase.{Phase}
use Rattle.tko_steps.specs.declared.phase.Phase.TheVariants.{Start, Read, AtThreshold, Limit, Reserving, Holding, Firming, Losing, Loosening, Loosened, Emptied}
use Rattle.tko_steps.specs.declared.phase.ThreadState.TheVariants.{InCall}
use Rattle.tko_steps.specs.declared.step.StepKind.TheVariants as kind
use Rattle.tko_steps.specs.declared.table.Decision.{Decision}
use Rattle.tko_steps.specs.declared.table.Decision.TheVariants.{Goes, Answers}
use Rattle.tko_steps.specs.Core.{abstract_of, follows, drawn_number, thread_at, slots_at}
use Rattle.tko_steps.specs.Owners.{IsOwner, owner_of, names}
use Rattle.tko_steps.specs.Steps.{decided_answer, kind_of_exchange}
use Rattle.tko_steps.specs.Invariant.{IsCore, IsFoundBy}
use Rattle.tko_steps.specs.Legal.{IsOwnersAnswer}
use Rattle.tko_steps.specs.Runs.{Moment, OwnStep, Took, World, owns_in_past}
use Rattle.tko_steps.specs.Steps.{is_server, owns_after}
use Rattle.tko_steps.specs.Table.{goes, lost_try, same_server, same_slots}
use Rattle.tko_steps.proofs.PhaseStepLemmas.{knows_at}
use Rattle.tko_steps.proofs.FamilyLemmas.{Follows, act_own}
use Rattle.tko_steps.proofs.StartLemmas.{from_start-is, is_plain, plain≢}
use Rattle.tko_steps.proofs.OwnLemmas.{AreOwned}
use Rattle.tko_steps.proofs.OwnedLemmas.{cond_same, owns_after-lost, true-names}
use Rattle.tko_steps.proofs.TableLemmas.{eq-same_server}
use Rattle.tko_steps.proofs.WiringLemmas.{stepped_from}
use Rattle.tko_model.specs.Groups.{group_of, limit_at}

-- a step before which the server's mark did not name this number
abbrev pub IsNotOwners : ℕ → ℕ → OwnStep → Type 0
IsNotOwners number server own = IsOwner own.step.before number server → ⊥

-- the thread did not own the server at any of these steps, and doesn't
pub record IsUnowned (past : List Moment) (thread number server : ℕ) (steps : List OwnStep) : Type 0 where
  pub none : All (IsNotOwners number server) steps
  pub owned : owns_in_past past thread server ≡ false

abbrev pub KnowsOwner : World → ℕ → CallState → List OwnStep → Phase → Type 0
KnowsOwner w thread call steps Start = All (IsNotOwners call.number call.server) steps
KnowsOwner w thread call steps (Read found mark answer) =
    (is_plain answer ≡ true) × (owner_of found.mark ≡ None → IsUnowned w.past thread call.number call.server steps)
KnowsOwner w thread call steps (AtThreshold found) = IsUnowned w.past thread call.number call.server steps
KnowsOwner w thread call steps (Limit found) = IsUnowned w.past thread call.number call.server steps
KnowsOwner w thread call steps (Reserving found slots) = IsUnowned w.past thread call.number call.server steps
KnowsOwner w thread call steps (Holding found) = IsUnowned w.past thread call.number call.server steps
KnowsOwner w thread call steps Firming = Unit {0}
KnowsOwner w thread call steps Losing = IsUnowned w.past thread call.number call.server steps
KnowsOwner w thread call steps (Loosening found mark answer) = is_plain answer ≡ true
KnowsOwner w thread call steps (Loosened found mark answer) = is_plain answer ≡ true
KnowsOwner w thread call steps (Emptied answer) = is_plain answer ≡ true

pub all_any : {X : Type 0} (P : X → Type 0) → ((x : X) → P x) → (xs : List X) → All P xs
all_any P each [] = All-nil P
all_any P each (x ∷ xs) = All-cons P x xs (each x) (all_any P each xs)

names-unmarked : (mark : Mark) (found : Option ℕ) → owner_of mark ≡ None → names mark found ≡ false
names-unmarked (Up count) found none = refl
names-unmarked (Soft owner) found none = cc
names-unmarked (Hard owner) found none = cc

-- what a lost exchange found was unmarked, since nobody else takes a thread's mark away
found-unmarked : (number : ℕ) (now found : ServerState) (mark : Mark) → found.mark ≡ mark → IsFoundBy number now found mark
    → same_server now found ≡ false → owner_of found.mark ≡ None
found-unmarked number now found (Up count) is by lost = ap owner_of is
found-unmarked number now found (Soft owner) is by lost = absurd by
found-unmarked number now found (Hard owner) is by lost = let same = eq-same_server now found by.1 in cc

module _ (w : World) (thread : ℕ) (call : CallState) (steps : List OwnStep) (is : IsCore w.core) (inside : thread < length w.core.threads)
    (owned : AreOwned w.past (abstract_of w.core) w.core.threads) where
  abbrev s : Settings
  s = w.core.settings

  abbrev now : ServerState
  now = server_at (abstract_of w.core) call.server

  abbrev own : Phase → OwnStep
  own phase = act_own w thread call phase

  abbrev Next : Phase → Decision → Type 0
  Next phase decision =
      Follows s KnowsOwner IsOwnersAnswer (stepped_from w thread (InCall call phase)) thread call steps (own phase) decision

  -- an answer that is neither Worn nor Contended
  answers-plain : (phase : Phase) (answer : Reply) → (own phase).step.answer ≡ Some answer → is_plain answer ≡ true → Next phase (Answers answer)
  answers-plain phase answer is_answer plain =
      all_any
      (λ (it : OwnStep). IsOwner it.step.before call.number call.server →
      ((own phase).step.answer ≢ Some Worn) × ((own phase).step.answer ≢ Some Contended))
      (λ it owner. (
        λ e. let same : answer ≡ Worn = cc in absurd (plain≢ answer Worn plain refl same),
        λ e. let same : answer ≡ Contended = cc in absurd (plain≢ answer Contended plain refl same),
      ))
      (own phase ∷ steps)

  -- an answer to a thread that never owned the server
  answers-unowned : (phase : Phase) (answer : Reply) → All (IsNotOwners call.number call.server) (own phase ∷ steps) → Next phase (Answers answer)
  answers-unowned phase answer none =
      All-weaker (IsNotOwners call.number call.server)
      (λ (it : OwnStep). IsOwner it.step.before call.number call.server →
      ((own phase).step.answer ≢ Some Worn) × ((own phase).step.answer ≢ Some Contended))
      (λ it apart owner. absurd (apart owner)) (own phase ∷ steps) none

  lost-unowned : (phase : Phase) → All (IsNotOwners call.number call.server) (own phase ∷ steps) → Next phase (lost_try s call)
  lost-unowned phase none =
      cond_both (eqb s.tries (call.lost + 1)) (Answers Contended) (Goes (call.lost + 1) Start) (Next phase)
      (λ last. answers-unowned phase Contended none) (λ left. none)

  owns-here : (phase : Phase) → thread_at w.core thread ≡ InCall call phase → owns_in_past w.past thread call.server ≡ names now.mark (Some call.number)
  owns-here phase stands = owned thread call.server ∙ ap (λ state. names now.mark (drawn_number state)) stands

  -- a step of a thread that does not own the server
  none-step : (phase : Phase) → thread_at w.core thread ≡ InCall call phase → IsUnowned w.past thread call.number call.server steps
      → All (IsNotOwners call.number call.server) (own phase ∷ steps)
  none-step phase stands unowned =
      All-cons (IsNotOwners call.number call.server) (own phase) steps
      (λ owner. let e = true-names now.mark (Some call.number) call.number refl owner in
      let both : false ≡ true = sym unowned.owned ∙ owns-here phase stands ∙ e in cc)
      unowned.none

  unowned-step : (phase : Phase) → thread_at w.core thread ≡ InCall call phase → IsUnowned w.past thread call.number call.server steps
      → owns_in_past (Took (own phase).step ∷ w.past) thread call.server ≡ owns_in_past w.past thread call.server
      → IsUnowned (Took (own phase).step ∷ w.past) thread call.number call.server (own phase ∷ steps)
  unowned-step phase stands unowned same = record { none = none-step phase stands unowned; owned = same ∙ unowned.owned }

  -- an exchange that is lost takes nothing and gives nothing
  owns-lost : (phase : Phase) (found : ServerState) (mark : Mark) → (own phase).step.kind ≡ kind_of_exchange found.mark mark
      → (own phase).step.won ≡ false → owns_in_past (Took (own phase).step ∷ w.past) thread call.server ≡ owns_in_past w.past thread call.server
  owns-lost phase found mark of_kind lost =
      let step = (own phase).step in
      let has = owns_in_past w.past thread call.server in
      cond_same (is_server call.server step.place && eqb step.thread thread) has (owns_after step.kind step.won step.left has)
      (ap (λ k. owns_after k step.won step.left has) of_kind
      ∙ ap (λ b. owns_after (kind_of_exchange found.mark mark) b step.left has) lost
      ∙ owns_after-lost found.mark mark step.left has)

  -- a look takes nothing and gives nothing
  owns-look : (phase : Phase) → (own phase).step.kind ≡ kind.Look
      → owns_in_past (Took (own phase).step ∷ w.past) thread call.server ≡ owns_in_past w.past thread call.server
  owns-look phase looks =
      let step = (own phase).step in
      let has = owns_in_past w.past thread call.server in
      cond_same (is_server call.server step.place && eqb step.thread thread) has (owns_after step.kind step.won step.left has)
      (ap (λ k. owns_after k step.won step.left has) looks)

  -- the first look found the server unmarked
  unowned-first : thread_at w.core thread ≡ InCall call Start → All (IsNotOwners call.number call.server) steps → owner_of now.mark ≡ None
      → IsUnowned (Took (own Start).step ∷ w.past) thread call.number call.server (own Start ∷ steps)
  unowned-first stands none unmarked =
      let not_mine : owns_in_past w.past thread call.server ≡ false = owns-here Start stands ∙ names-unmarked now.mark (Some call.number) unmarked in
      unowned-step Start stands (record { none = none; owned = not_mine }) (owns-look Start refl)

  pub owner-act : (phase : Phase) → thread_at w.core thread ≡ InCall call phase → KnowsOwner w thread call steps phase
      → Next phase (follows w.core call phase)
  owner-act Start stands none =
      let A : OwnStep → Type 0 = λ it. IsOwner it.step.before call.number call.server →
      ((own Start).step.answer ≢ Some Worn) × ((own Start).step.answer ≢ Some Contended) in
      from_start-is s call now (λ decision. (own Start).step.answer ≡ decided_answer decision → Next Start decision)
      (λ answer is_answer is told.
      All-cons A (own Start) steps
      (λ owner. (
        λ e.
            let same : answer ≡ Worn = cc in
            let both : None ≡ Some call.number = sym (is_answer.worn same) ∙ owner in
            cc,
        λ e. let same : answer ≡ Contended = cc in absurd (is_answer.contended same),
      ))
      (All-weaker (IsNotOwners call.number call.server) A (λ it apart owner. absurd (apart owner)) steps none))
      (λ soft fresh is told. unowned-first stands none fresh.0)
      (λ mark answer put can by is told. (put.plain, λ unmarked. unowned-first stands none unmarked))
      (λ mark answer put can mine is told. put.plain)
      refl
  owner-act (Read found mark answer) stands (plain, unowned) =
      let phase : Phase = Read found mark answer in
      let knows = knows_at w.core thread call is inside phase stands in
      cond_both (same_server now found) (Answers answer) (lost_try s call) (Next phase)
      (λ won. answers-plain phase answer (ap (λ b. decided_answer (cond b (Answers answer) (lost_try s call))) won) plain)
      (λ lost. lost-unowned phase
      (none-step phase stands (unowned (found-unmarked call.number now found found.mark refl knows.2.1 lost))))
  owner-act (AtThreshold found) stands knows =
      let phase : Phase = AtThreshold found in
      let slots = slots_at w.core.shared.slots (group_of s call.server) in
      let next = unowned-step phase stands knows refl in
      let rest = cond (eqb (slots.firm + slots.held) (limit_at s call.server)) (lost_try s call) (goes call (Reserving found slots)) in
      cond_both (eqb slots.firm (limit_at s call.server)) (goes call (Limit found)) rest (Next phase)
      (λ full. next)
      (λ below. cond_both (eqb (slots.firm + slots.held) (limit_at s call.server)) (lost_try s call) (goes call (Reserving found slots)) (Next phase)
      (λ held. lost-unowned phase next.none) (λ left. next))
  owner-act (Limit found) stands knows =
      let phase : Phase = Limit found in
      let none = none-step phase stands knows in
      cond_both (same_server found now) (Answers Full) (lost_try s call) (Next phase)
      (λ same. answers-unowned phase Full none) (λ other. lost-unowned phase none)
  owner-act (Reserving found before) stands knows =
      let phase : Phase = Reserving found before in
      let next = unowned-step phase stands knows refl in
      cond_both (same_slots (slots_at w.core.shared.slots (group_of s call.server)) before) (goes call (Holding found)) (lost_try s call) (Next phase)
      (λ won. next) (λ lost. lost-unowned phase next.none)
  owner-act (Holding found) stands knows =
      let phase : Phase = Holding found in
      cond_both (same_server now found) (goes call Firming) (goes call Losing) (Next phase)
      (λ won. tt)
      (λ lost. unowned-step phase stands knows (owns-lost phase found (Soft call.number) refl lost))
  owner-act Firming stands knows = answers-plain Firming TookSoft refl refl
  owner-act Losing stands knows = lost-unowned Losing (none-step Losing stands knows)
  owner-act (Loosening found mark answer) stands knows = knows
  owner-act (Loosened found mark answer) stands knows = knows
  owner-act (Emptied answer) stands knows = answers-plain (Emptied answer) answer refl knows

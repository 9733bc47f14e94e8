-- What the table's decisions leave a call with: what its phase knows, and whether it holds a slot.
use Rattle.std.proofs.Common.{◌≡◌, ◌+◌, ◌<◌, ◌≤◌, true, false, cond, eqb, None, refl, ap, ◌∙◌, subst, arith}
use Rattle.std.proofs.lemmas.Bool.{and_from, and_parts, cond_both, eq-eqb, eqb-false, eqb-true}
use Rattle.tko_model.specs.declared.mark.Mark.{Mark}
use Rattle.tko_model.specs.declared.mark.Mark.TheVariants.{Up, Soft, Hard}
use Rattle.tko_model.specs.declared.mark.Reply.{Reply}
use Rattle.tko_model.specs.declared.mark.Reply.TheVariants as reply
use Rattle.tko_model.specs.Settings.{Settings}
use Rattle.tko_model.specs.declared.state.ServerState.{ServerState}
use Rattle.tko_model.specs.Limits.{worn}
use Rattle.tko_model.specs.Ranges.{IsWithinRanges}
use Rattle.tko_model.specs.Tracker.{IsFit}
use Rattle.tko_model.specs.Groups.{limit_at}
use Rattle.tko_steps.specs.declared.phase.Call.{Call}
use Rattle.tko_steps.specs.declared.phase.Phase.TheVariants.{Start, Limit, Reserving}
use Rattle.tko_steps.specs.declared.phase.Slots.{Slots}
use Rattle.tko_steps.specs.declared.table.Decision.{Decision}
use Rattle.tko_steps.specs.declared.table.Decision.TheVariants.{Goes, Answers}
use Rattle.tko_steps.specs.Owners.{owner_of}
use Rattle.tko_steps.specs.Steps.{decided_state}
use Rattle.tko_steps.specs.Invariant.{IsPhase, holds, is_loose}
use Rattle.tko_steps.specs.Table.{at_limit, at_threshold, from_start, goes, lost_try, same_mark, same_server, same_slots}
use Rattle.tko_steps.proofs.StartLemmas.{from_start-is}

pub same_mark-true : (one other : Mark) → same_mark one other ≡ true → one ≡ other
same_mark-true (Up a) (Up b) e = ap Up (eqb-true a b e)
same_mark-true (Up a) (Soft b) e = cc
same_mark-true (Up a) (Hard b) e = cc
same_mark-true (Soft a) (Up b) e = cc
same_mark-true (Soft a) (Soft b) e = ap Soft (eqb-true a b e)
same_mark-true (Soft a) (Hard b) e = cc
same_mark-true (Hard a) (Up b) e = cc
same_mark-true (Hard a) (Soft b) e = cc
same_mark-true (Hard a) (Hard b) e = ap Hard (eqb-true a b e)

same_mark_refl : (mark : Mark) → same_mark mark mark ≡ true
same_mark_refl (Up a) = eq-eqb a a refl
same_mark_refl (Soft a) = eq-eqb a a refl
same_mark_refl (Hard a) = eq-eqb a a refl

pub server_is : (one other : ServerState) → one.mark ≡ other.mark → one.stamp ≡ other.stamp → one ≡ other
server_is one other marks stamps =
    ap (λ m. let it : ServerState = record { mark = m; stamp = one.stamp } in it) marks
    ∙ ap (λ n. let it : ServerState = record { mark = other.mark; stamp = n } in it) stamps

pub same_server-true : (one other : ServerState) → same_server one other ≡ true → one ≡ other
same_server-true one other e =
    let parts = and_parts (same_mark one.mark other.mark) (eqb one.stamp other.stamp) e in
    server_is one other (same_mark-true one.mark other.mark parts.0) (eqb-true one.stamp other.stamp parts.1)

same_server_refl : (server : ServerState) → same_server server server ≡ true
same_server_refl server =
    and_from (same_mark server.mark server.mark) (eqb server.stamp server.stamp)
    (same_mark_refl server.mark) (eq-eqb server.stamp server.stamp refl)

pub eq-same_server : (one other : ServerState) → one ≡ other → same_server one other ≡ true
eq-same_server one other e = subst (λ it. same_server one it ≡ true) e (same_server_refl one)

pub same_slots-true : (one other : Slots) → same_slots one other ≡ true → (one.firm ≡ other.firm) × (one.held ≡ other.held)
same_slots-true one other e =
    let parts = and_parts (eqb one.firm other.firm) (eqb one.held other.held) e in (
      eqb-true one.firm other.firm parts.0,
      eqb-true one.held other.held parts.1,
    )

-- what a decision leaves the call with, where its server now is this
abbrev pub IsDecided : Settings → Call → ServerState → Decision → Type 0
IsDecided s call now (Goes lost phase) = (lost < s.tries) × IsPhase s (record call { lost = lost }) now phase
IsDecided s call now (Answers answer) = Unit {0}

-- it also holds no slot
pub record IsCalm (s : Settings) (call : Call) (now : ServerState) (decision : Decision) : Type 0 where
  pub decided : IsDecided s call now decision
  pub holds : holds (decided_state call decision) ≡ false
  pub loose : is_loose (decided_state call decision) ≡ false

pub IsCalm-answers : (s : Settings) (call : Call) (now : ServerState) (answer : Reply) → IsCalm s call now (Answers answer)
IsCalm-answers s call now answer = record { decided = tt; holds = refl; loose = refl }

pub IsCalm-lost_try : (s : Settings) (call : Call) (now : ServerState) → call.lost < s.tries → IsCalm s call now (lost_try s call)
IsCalm-lost_try s call now left =
    cond_both (eqb s.tries (call.lost + 1)) (Answers reply.Contended) (Goes (call.lost + 1) Start) (IsCalm s call now)
    (λ e. IsCalm-answers s call now reply.Contended)
    (λ e. let apart = eqb-false s.tries (call.lost + 1) e in
    record { decided = (omega arith, tt); holds = refl; loose = refl })

module _ (s : Settings) (call : Call) (now : ServerState) (ranges : IsWithinRanges s) (left : call.lost < s.tries) where
  pub IsCalm-from_start : IsFit s now.mark now.stamp → IsCalm s call now (from_start s call now)
  IsCalm-from_start fit =
      from_start-is s call now (IsCalm s call now)
      (λ answer is_answer is. IsCalm-answers s call now answer)
      (λ soft fresh is. record { decided = (left, fresh); holds = refl; loose = refl })
      (λ mark answer put can by is. record { decided = (left, (put.write ranges fit, by)); holds = refl; loose = refl })
      (λ mark answer put can own is. record { decided = (left, (put.write ranges fit, own, refl)); holds = refl; loose = refl })

  pub IsCalm-at_limit : (before : ServerState) → IsCalm s call now (at_limit s call before now)
  IsCalm-at_limit before =
      cond_both (same_server before now) (Answers reply.Full) (lost_try s call) (IsCalm s call now)
      (λ e. IsCalm-answers s call now reply.Full)
      (λ e. IsCalm-lost_try s call now left)

  pub IsCalm-at_threshold : (found : ServerState) (slots : Slots) → owner_of found.mark ≡ None → found.stamp < worn
      → slots.firm + slots.held ≤ limit_at s call.server → IsCalm s call now (at_threshold s call found slots)
  IsCalm-at_threshold found slots unmarked fresh room =
      let rest = cond (eqb (slots.firm + slots.held) (limit_at s call.server)) (lost_try s call) (goes call (Reserving found slots)) in
      cond_both (eqb slots.firm (limit_at s call.server)) (goes call (Limit found)) rest (IsCalm s call now)
      (λ e. record { decided = (left, (unmarked, fresh)); holds = refl; loose = refl })
      (λ e. cond_both (eqb (slots.firm + slots.held) (limit_at s call.server)) (lost_try s call) (goes call (Reserving found slots)) (IsCalm s call now)
      (λ full. IsCalm-lost_try s call now left)
      (λ room_left. let apart = eqb-false (slots.firm + slots.held) (limit_at s call.server) room_left in
      record { decided = (left, ((unmarked, fresh), omega arith)); holds = refl; loose = refl }))

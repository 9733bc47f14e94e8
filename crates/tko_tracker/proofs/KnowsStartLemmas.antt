-- What is known of a call is kept where its try goes on, and by the first look of a try.
use Rattle.std.proofs.Common.{◌≡◌, ℕ, ◌+◌, ◌*◌, ◌<◌, ◌≤◌, true, false, cond, eqb, ltb, leb, List}
use Rattle.std.proofs.Common.{Some, refl, sym, ap, ◌∙◌, subst, arith}
use Rattle.std.proofs.lemmas.Bool.{cond-false, cond-true, cond_both, eqb-true, ltb-true}
use Rattle.tko_model.specs.declared.mark.Mark.{Mark}
use Rattle.tko_model.specs.declared.mark.Mark.TheVariants.{Up, Soft, Hard}
use Rattle.tko_model.specs.declared.mark.Op.{Op}
use Rattle.tko_model.specs.declared.mark.Op.TheVariants.{LookUp, SoftFailure, HardFailure, Success}
use Rattle.tko_model.specs.declared.mark.Op.TheVariants.{Release}
use Rattle.tko_model.specs.declared.mark.Reply.{Reply}
use Rattle.tko_model.specs.declared.mark.Reply.TheVariants as reply
use Rattle.tko_model.specs.Settings.{Settings}
use Rattle.tko_model.specs.declared.state.ServerState.{ServerState}
use Rattle.tko_model.specs.declared.transition.Transition.{Transition}
use Rattle.tko_model.specs.Looks.{look_reply}
use Rattle.tko_model.specs.Limits.{worn}
use Rattle.tko_model.specs.Ranges.{IsWithinRanges}
use Rattle.tko_model.specs.Tracker.{becomes, is_soft, on_others, on_own_hard, on_own_soft}
use Rattle.tko_model.specs.Tracker.{on_unmarked, stays, transition}
use Rattle.tko_word.specs.Words.{IsMarkOf}
use Rattle.tko_steps.specs.declared.phase.Call.{Call}
use Rattle.tko_steps.specs.declared.phase.Phase.{Phase}
use Rattle.tko_steps.specs.declared.phase.Phase.TheVariants.{Start, Read, AtThreshold, Loosening}
use Rattle.tko_steps.specs.declared.table.Decision.{Decision}
use Rattle.tko_steps.specs.declared.table.Decision.TheVariants.{Answers}
use Rattle.tko_steps.specs.declared.table.Observed.TheVariants as seen
use Rattle.tko_steps.specs.Steps.{is_marked_state}
use Rattle.tko_steps.specs.Table.{goes, puts, sets_out}
use Rattle.tko_steps.proofs.CostLemmas.{depth, per_try}
use Rattle.tko_steps.proofs.StartLemmas.{CanLoosen}
use Rattle.tko_table.specs.Passes.{is_marked_by, owns}
use Rattle.tko_table.specs.Steps.{IsSound}
use Rattle.tko_tracker.specs.Calls.{answers_owner, can_answer, owned_left}
use Rattle.tko_tracker.specs.Running.{CanWrite}
use Rattle.tko_tracker.proofs.KnowsLemmas.{CanExchange, Knows, KnowsAfter, KnowsAt, Leaves, OwnedAt}
use Rattle.tko_tracker.proofs.StepNumberLemmas.{left-deeper, one-deeper, short-start, writable}

-- ---- the try goes on to its next phase
pub goes-on : {s : Settings} {first : ℕ} {base : List ℕ} {call : Call} {steps : ℕ} {owned : List ℕ}
    (phase next : Phase) (now : List ℕ)
    → Knows s first base call phase steps owned → depth next ≡ depth phase + 1 → depth phase ≤ 3
    → KnowsAt call.op call.server base now next → CanWrite call.number next
    → (owns base call.server ≡ true → OwnedAt call.op next)
    → KnowsAfter s first base call phase (goes call next) (steps + 1) now
goes-on {s} {first} {base} {call} {steps} {owned} phase next now knows deeper
    shallow at writes owner = (
      record {
        lost = knows.lost;
        few = rw deeper
            (one-deeper (per_try call.op * call.lost) first steps (depth phase) knows.few);
        at = at;
        writes = writes;
        owner = owner;
      },
      left-deeper s.tries call.lost (depth phase) (depth next) knows.lost deeper shallow,
    )

-- ---- the first look of a try
module _ (s : Settings) (ranges : IsWithinRanges s) (first : ℕ) (base : List ℕ) (call : Call)
    (within : call.number < s.threads) (steps : ℕ) (owned : List ℕ)
    (now : ServerState) (sound : IsSound s call.server (seen.Server now))
    (knows : Knows s first base call Start steps owned)
    (owned-its : owns owned call.server ≡ is_marked_by (Some call.number) now.mark) where
  abbrev Next : Decision → Type 0
  Next decision = KnowsAfter s first base call Start decision (steps + 1) owned

  -- a server that its thread owned as the call began has a mark that names it
  named : owns base call.server ≡ true → is_marked_by (Some call.number) now.mark ≡ true
  named own = sym owned-its ∙ ap (λ it. owns it call.server) knows.at ∙ own

  ends : (answer : Reply) → can_answer call.op answer ≡ true
      → owned_left answer call.server base ≡ base
      → (owns base call.server ≡ true → answers_owner call.op answer ≡ true) → Next (Answers answer)
  ends answer allowed same owner =
      record {
        few = short-start s call.op first steps call.lost knows.few knows.lost;
        allowed = allowed;
        leaves = knows.at ∙ sym same;
        owner = owner;
      }

  reads : (op : Op) (mark : Mark) (answer : Reply) → call.op ≡ op → is_soft mark ≡ false
      → is_soft now.mark ≡ false → CanExchange op now.mark
      → Leaves op mark answer → IsMarkOf s mark
      → (owns base call.server ≡ true → (is_marked_state now.mark ≡ true)
      × (answers_owner op answer ≡ true))
      → Next (puts call now mark answer)
  reads op mark answer is firm firm_now can leaves allowed owner =
      subst Next (sym (cond-false _ _ _ firm ∙ cond-false _ _ _ firm_now))
      (goes-on Start (Read now mark answer) owned knows refl (omega arith) (
        knows.at,
        subst (λ it. CanExchange it now.mark) (sym is) can,
        subst (λ it. Leaves it mark answer) (sym is) leaves,
      )
      (writable s call.server now mark ranges sound allowed)
      (λ own. ((owner own).0, ap (λ it. answers_owner it answer) is ∙ (owner own).1)))

  loosens : (op : Op) (mark : Mark) (answer : Reply) → call.op ≡ op → is_soft mark ≡ false
      → now.mark ≡ Soft call.number → CanLoosen op
      → Leaves op mark answer → IsMarkOf s mark → answers_owner op answer ≡ true
      → Next (puts call now mark answer)
  loosens op mark answer is firm mine can leaves allowed owner =
      subst Next (sym (cond-false _ _ _ firm ∙ cond-true _ _ _ (ap is_soft mine)))
      (goes-on Start (Loosening now mark answer) owned knows refl (omega arith) (
        knows.at,
        subst CanLoosen (sym is) can,
        subst (λ it. Leaves it mark answer) (sym is) leaves,
        ap is_marked_state mine,
      )
      (writable s call.server now mark ranges sound allowed)
      (λ own. ap (λ it. answers_owner it answer) is ∙ owner))

  one-failure : 0 < s.failures
  one-failure = omega (arith, ranges.failures.0)

  allows : (op : Op) (answer : Reply) → call.op ≡ op → can_answer op answer ≡ true
      → can_answer call.op answer ≡ true
  allows op answer is allowed = ap (λ it. can_answer it answer) is ∙ allowed

  allows-owner : (op : Op) (answer : Reply) → call.op ≡ op → answers_owner op answer ≡ true
      → answers_owner call.op answer ≡ true
  allows-owner op answer is allowed = ap (λ it. answers_owner it answer) is ∙ allowed

  -- the call sets out to do this
  abbrev Out : Transition → Type 0
  Out given = Next (sets_out call now given.reply given.change)

  start-up : (op : Op) (count : ℕ) → call.op ≡ op → now.mark ≡ Up count
      → (owns base call.server ≡ true → ⊥)
      → Out (on_unmarked s true call.number op count now.stamp)
  start-up LookUp count is up none =
      ends (reply.Up count) (allows LookUp (reply.Up count) is refl) refl (λ own. absurd (none own))
  start-up SoftFailure count is up none =
      let counts : Transition = becomes (Up (count + 1)) (reply.Counted (count + 1)) in
      let marks : Transition = becomes (Soft call.number) reply.TookSoft in
      cond_both (leb worn now.stamp) (stays reply.Worn)
      (cond (ltb (count + 1) s.failures) counts marks) Out
      (λ old. ends reply.Worn (allows SoftFailure reply.Worn is refl) refl
      (λ own. absurd (none own)))
      (λ fresh. cond_both (ltb (count + 1) s.failures) counts marks Out
      (λ less. reads SoftFailure (Up (count + 1)) (reply.Counted (count + 1)) is refl
      (ap is_soft up) tt (record { allowed = refl; owned = λ server servers. refl })
      (ltb-true (count + 1) s.failures less) (λ own. absurd (none own)))
      (λ last. goes-on Start (AtThreshold now) owned knows refl (omega arith) (is, knows.at)
      (writable s call.server now (Soft call.number) ranges sound within) none))
  start-up HardFailure count is up none =
      cond_both (leb worn now.stamp) (stays reply.Worn)
      (becomes (Hard call.number) reply.TookHard) Out
      (λ old. ends reply.Worn (allows HardFailure reply.Worn is refl) refl
      (λ own. absurd (none own)))
      (λ fresh. reads HardFailure (Hard call.number) reply.TookHard is refl (ap is_soft up) tt
      (record { allowed = refl; owned = λ server servers. refl })
      within (λ own. absurd (none own)))
  start-up Success count is up none =
      let resets : Transition = becomes (Up 0) (reply.Reset count) in
      cond_both (eqb count 0) (stays reply.Clean)
      (cond (leb worn now.stamp) (stays reply.Worn) resets) Out
      (λ zero_count. ends reply.Clean (allows Success reply.Clean is refl) refl
      (λ own. absurd (none own)))
      (λ some. cond_both (leb worn now.stamp) (stays reply.Worn) resets Out
      (λ old. ends reply.Worn (allows Success reply.Worn is refl) refl (λ own. absurd (none own)))
      (λ fresh. reads Success (Up 0) (reply.Reset count) is refl (ap is_soft up) tt
      (record { allowed = refl; owned = λ server servers. refl }) one-failure
      (λ own. absurd (none own))))
  start-up Release count is up none = ends (reply.NotMine (Up count))
      (allows Release (reply.NotMine (Up count)) is refl) refl (λ own. absurd (none own))

  -- an answer to the thread that marked the server
  stays-own : (op : Op) (answer : Reply) → call.op ≡ op → can_answer op answer ≡ true
      → answers_owner op answer ≡ true
      → owned_left answer call.server base ≡ base → Next (Answers answer)
  stays-own op answer is allowed owner same =
      ends answer (allows op answer is allowed) same (λ own. allows-owner op answer is owner)

  start-own_soft : (op : Op) → call.op ≡ op → now.mark ≡ Soft call.number
      → Out (on_own_soft call.number op)
  start-own_soft LookUp is mine =
      stays-own LookUp (reply.Marked (Soft call.number)) is refl refl refl
  start-own_soft SoftFailure is mine =
      stays-own SoftFailure (reply.Already (Soft call.number)) is refl refl refl
  start-own_soft HardFailure is mine =
      loosens HardFailure (Hard call.number) reply.Hardened is refl mine tt
      (record { allowed = refl; owned = λ server servers. refl }) within refl
  start-own_soft Success is mine =
      loosens Success (Up 0) (reply.Unmarked (Soft call.number)) is refl mine tt
      (record { allowed = refl; owned = λ server servers. refl }) one-failure refl
  start-own_soft Release is mine =
      loosens Release (Up 0) (reply.Released (Soft call.number)) is refl mine tt
      (record { allowed = refl; owned = λ server servers. refl }) one-failure refl

  start-own_hard : (op : Op) → call.op ≡ op → now.mark ≡ Hard call.number
      → Out (on_own_hard call.number op)
  start-own_hard LookUp is mine =
      stays-own LookUp (reply.Marked (Hard call.number)) is refl refl refl
  start-own_hard SoftFailure is mine =
      stays-own SoftFailure (reply.Already (Hard call.number)) is refl refl refl
  start-own_hard HardFailure is mine =
      stays-own HardFailure (reply.Already (Hard call.number)) is refl refl refl
  start-own_hard Success is mine =
      reads Success (Up 0) (reply.Unmarked (Hard call.number)) is refl (ap is_soft mine) tt
      (record { allowed = refl; owned = λ server servers. refl })
      one-failure (λ own. (ap is_marked_state mine, refl))
  start-own_hard Release is mine =
      reads Release (Up 0) (reply.Released (Hard call.number)) is refl (ap is_soft mine)
      (ap is_marked_state mine)
      (record { allowed = refl; owned = λ server servers. refl }) one-failure
      (λ own. (ap is_marked_state mine, refl))

  start-others : (op : Op) (mark : Mark) → call.op ≡ op → look_reply mark ≡ reply.Marked mark
      → (owns base call.server ≡ true → ⊥) → Out (on_others op mark)
  start-others LookUp mark is looks none =
      subst (λ it. Next (Answers it)) (sym looks)
      (ends (reply.Marked mark) (allows LookUp (reply.Marked mark) is refl) refl
      (λ own. absurd (none own)))
  start-others SoftFailure mark is looks none = ends (reply.Already mark)
      (allows SoftFailure (reply.Already mark) is refl) refl (λ own. absurd (none own))
  start-others HardFailure mark is looks none = ends (reply.Already mark)
      (allows HardFailure (reply.Already mark) is refl) refl (λ own. absurd (none own))
  start-others Success mark is looks none = ends (reply.Already mark)
      (allows Success (reply.Already mark) is refl) refl (λ own. absurd (none own))
  start-others Release mark is looks none = ends (reply.NotMine mark)
      (allows Release (reply.NotMine mark) is refl) refl (λ own. absurd (none own))

  pub start-mark : (mark : Mark) → now.mark ≡ mark
      → Out (transition s true call.number call.op mark now.stamp)
  start-mark (Up count) is =
      start-up call.op count refl is (λ own. let e : true ≡ false = sym (named own)
      ∙ ap (is_marked_by (Some call.number)) is in cc)
  start-mark (Soft owner) is =
      cond_both (eqb owner call.number) (on_own_soft call.number call.op)
      (on_others call.op (Soft owner)) Out
      (λ mine. start-own_soft call.op refl (is ∙ ap Soft (eqb-true owner call.number mine)))
      (λ theirs. start-others call.op (Soft owner) refl refl
      (λ own. let e : true ≡ false = sym (named own) ∙ ap (is_marked_by (Some call.number)) is
      ∙ theirs in cc))
  start-mark (Hard owner) is =
      cond_both (eqb owner call.number) (on_own_hard call.number call.op)
      (on_others call.op (Hard owner)) Out
      (λ mine. start-own_hard call.op refl (is ∙ ap Hard (eqb-true owner call.number mine)))
      (λ theirs. start-others call.op (Hard owner) refl refl
      (λ own. let e : true ≡ false = sym (named own) ∙ ap (is_marked_by (Some call.number)) is
      ∙ theirs in cc))

-- What an operation may do to a server, whatever room there is for one more soft mark: one walk over the sequential tracker's table.
-- So what its replies may be, and what the first look of a try leads to.
use Rattle.std.proofs.Common.{◌≡◌, ◌≢◌, ℕ, ◌+◌, ◌<◌, ◌≤◌, Bool, true, false, cond, ltb, leb, eqb, None, refl, sym, ap, ◌∙◌, subst, arith}
use Rattle.std.proofs.lemmas.Bool.{cond-false, cond-true, cond_both, eqb-true, leb-false, ltb-false, ltb-true}
use Rattle.tko_model.specs.declared.mark.Mark.{Mark}
use Rattle.tko_model.specs.declared.mark.Mark.TheVariants.{Up, Soft, Hard}
use Rattle.tko_model.specs.declared.mark.Op.{Op}
use Rattle.tko_model.specs.declared.mark.Op.TheVariants.{LookUp, SoftFailure, HardFailure, Success, Release}
use Rattle.tko_model.specs.declared.mark.Reply.{Reply}
use Rattle.tko_model.specs.declared.mark.Reply.TheVariants as reply
use Rattle.tko_model.specs.Settings.{Settings}
use Rattle.tko_model.specs.declared.state.ServerState.{ServerState}
use Rattle.tko_model.specs.declared.transition.Transition.{Transition}
use Rattle.tko_model.specs.Looks.{look_reply}
use Rattle.tko_model.specs.Limits.{worn}
use Rattle.tko_model.specs.Ranges.{IsWithinRanges}
use Rattle.tko_model.specs.Tracker.{IsFit, becomes, is_soft, on_others, on_own_hard, on_own_soft, on_unmarked, stays, transition}
use Rattle.tko_steps.specs.declared.phase.Call.{Call}
use Rattle.tko_steps.specs.declared.phase.Phase.TheVariants.{Read, AtThreshold, Loosening}
use Rattle.tko_steps.specs.declared.table.Decision.{Decision}
use Rattle.tko_steps.specs.declared.table.Decision.TheVariants.{Answers}
use Rattle.tko_steps.specs.Owners.{owner_of}
use Rattle.tko_steps.specs.Invariant.{IsFoundBy, IsUnmarkedUnworn, IsWrite}
use Rattle.tko_steps.specs.Table.{from_start, goes, puts, sets_out}

-- ---- replies

-- a reply that says neither full, worn nor contended
abbrev pub is_plain : Reply → Bool
is_plain reply.Full = false
is_plain reply.Worn = false
is_plain reply.Contended = false
is_plain _ = true

pub plain≢ : (answer other : Reply) → is_plain answer ≡ true → is_plain other ≡ false → answer ≢ other
plain≢ answer other plain not_plain same = let e = ap is_plain same in cc

-- a reply to an operation that changes nothing on a server with this mark
pub record IsAnswer (mark : Mark) (answer : Reply) : Type 0 where
  pub contended : answer ≢ reply.Contended
  pub full : answer ≢ reply.Full
  pub worn : answer ≡ reply.Worn → owner_of mark ≡ None

-- ---- the rows of the table

-- an operation that may exchange a word with this mark
abbrev pub CanRead : Op → ℕ → Mark → Type 0
CanRead LookUp number mark = ⊥
CanRead Release number mark = mark ≡ Hard number
CanRead op number mark = Unit {0}

-- an operation that may loosen the thread's own soft mark
abbrev pub CanLoosen : Op → Type 0
CanLoosen LookUp = ⊥
CanLoosen SoftFailure = ⊥
CanLoosen op = Unit {0}

-- the operation puts this mark, which is not soft, in the place of what it found
pub record IsPut (s : Settings) (number : ℕ) (found : ServerState) (mark : Mark) (answer : Reply) : Type 0 where
  pub plain : is_plain answer ≡ true
  pub soft : is_soft mark ≡ false
  pub write : IsWithinRanges s → IsFit s found.mark found.stamp → IsWrite s number found mark

-- what an operation does to a server that it finds like this, by whether there is room for one more soft mark
pub data Row (s : Settings) (number : ℕ) (op : Op) (found : ServerState) (given : Bool → Transition) : Type 0 where
  Stays : (answer : Reply) → IsAnswer found.mark answer → ((room : Bool) → given room ≡ stays answer) → Row s number op found given
  Takes : op ≡ SoftFailure → IsUnmarkedUnworn found
      → ((room : Bool) → given room ≡ cond room (becomes (Soft number) reply.TookSoft) (stays reply.Full)) → Row s number op found given
  Reads : (mark : Mark) (answer : Reply) → IsPut s number found mark answer → CanRead op number found.mark → IsFoundBy number found found found.mark
      → ((room : Bool) → given room ≡ becomes mark answer) → Row s number op found given
  Loosens : (mark : Mark) (answer : Reply) → IsPut s number found mark answer → CanLoosen op → found.mark ≡ Soft number
      → ((room : Bool) → given room ≡ becomes mark answer) → Row s number op found given

module _ (s : Settings) (number : ℕ) where
  plain-row : (op : Op) (found : ServerState) (answer : Reply) → is_plain answer ≡ true → Row s number op found (λ room. stays answer)
  plain-row op found answer plain =
      Stays answer
      (record {
        contended = plain≢ answer reply.Contended plain refl;
        full = plain≢ answer reply.Full plain refl;
        worn = λ e. absurd (plain≢ answer reply.Worn plain refl e);
      })
      (λ room. refl)

  either : (op : Op) (found : ServerState) (test : Bool) (one other : Bool → Transition) → (test ≡ true → Row s number op found one)
      → (test ≡ false → Row s number op found other) → Row s number op found (λ room. cond test (one room) (other room))
  either op found true one other passes fails = passes refl
  either op found false one other passes fails = fails refl

  -- an unmarked server that may be worn
  unless_worn-row : (op : Op) (count stamp : ℕ) (other : Bool → Transition)
      → (stamp < worn → Row s number op (record { mark = Up count; stamp = stamp }) other)
      → Row s number op (record { mark = Up count; stamp = stamp }) (λ room. cond (leb worn stamp) (stays reply.Worn) (other room))
  unless_worn-row op count stamp other fresh =
      either op _ (leb worn stamp) (λ room. stays reply.Worn) other
      (λ old. Stays reply.Worn (record { contended = λ e. cc; full = λ e. cc; worn = λ e. refl }) (λ room. refl))
      (λ e. fresh (leb-false worn stamp e))

  row-up : (op : Op) (count stamp : ℕ)
      → Row s number op (record { mark = Up count; stamp = stamp }) (λ room. on_unmarked s room number op count stamp)
  row-up LookUp count stamp = plain-row LookUp _ (reply.Up count) refl
  row-up SoftFailure count stamp =
      let marks : Bool → Transition = λ room. cond room (becomes (Soft number) reply.TookSoft) (stays reply.Full) in
      let counts : Bool → Transition = λ room. becomes (Up (count + 1)) (reply.Counted (count + 1)) in
      unless_worn-row SoftFailure count stamp (λ room. cond (ltb (count + 1) s.failures) (counts room) (marks room)) (λ fresh.
      either SoftFailure _ (ltb (count + 1) s.failures) counts marks
      (λ low. Reads (Up (count + 1)) (reply.Counted (count + 1))
      (record { plain = refl; soft = refl; write = λ ranges fit. record { fit = (ltb-true (count + 1) s.failures low, omega arith); own = tt } })
      tt fresh (λ room. refl))
      (λ last. Takes refl (refl, fresh) (λ room. refl)))
  row-up HardFailure count stamp =
      unless_worn-row HardFailure count stamp (λ room. becomes (Hard number) reply.TookHard) (λ fresh.
      Reads (Hard number) reply.TookHard
      (record { plain = refl; soft = refl; write = λ ranges fit. record { fit = omega arith; own = refl } }) tt fresh (λ room. refl))
  row-up Success count stamp =
      let resets : Bool → Transition = λ room. becomes (Up 0) (reply.Reset count) in
      either Success _ (eqb count 0) (λ room. stays reply.Clean) (λ room. cond (leb worn stamp) (stays reply.Worn) (resets room))
      (λ none. plain-row Success _ reply.Clean refl)
      (λ some. unless_worn-row Success count stamp resets (λ fresh.
      Reads (Up 0) (reply.Reset count)
      (record { plain = refl; soft = refl; write = λ ranges fit. record { fit = (ranges.failures.0, omega arith); own = tt } }) tt fresh (λ room. refl)))
  row-up Release count stamp = plain-row Release _ (reply.NotMine (Up count)) refl

  -- the thread's own mark is taken away
  clears : (found : ServerState) (answer : Reply) → is_plain answer ≡ true → (IsFit s found.mark found.stamp → found.stamp ≤ worn + 1)
      → IsPut s number found (Up 0) answer
  clears found answer plain low =
      record {
        plain = plain;
        soft = refl;
        write = λ ranges fit. let below = low fit in record { fit = (ranges.failures.0, omega (arith, below)); own = tt };
      }

  row-own_soft : (op : Op) (stamp : ℕ) → Row s number op (record { mark = Soft number; stamp = stamp }) (λ room. on_own_soft number op)
  row-own_soft LookUp stamp = plain-row LookUp _ (look_reply (Soft number)) refl
  row-own_soft SoftFailure stamp = plain-row SoftFailure _ (reply.Already (Soft number)) refl
  row-own_soft HardFailure stamp =
      Loosens (Hard number) reply.Hardened
      (record { plain = refl; soft = refl; write = λ ranges fit. record { fit = omega (arith, fit); own = refl } }) tt refl (λ room. refl)
  row-own_soft Success stamp =
      Loosens (Up 0) (reply.Unmarked (Soft number)) (clears _ _ refl (λ fit. omega (arith, fit))) tt refl (λ room. refl)
  row-own_soft Release stamp =
      Loosens (Up 0) (reply.Released (Soft number)) (clears _ _ refl (λ fit. omega (arith, fit))) tt refl (λ room. refl)

  row-own_hard : (op : Op) (stamp : ℕ) → Row s number op (record { mark = Hard number; stamp = stamp }) (λ room. on_own_hard number op)
  row-own_hard LookUp stamp = plain-row LookUp _ (look_reply (Hard number)) refl
  row-own_hard SoftFailure stamp = plain-row SoftFailure _ (reply.Already (Hard number)) refl
  row-own_hard HardFailure stamp = plain-row HardFailure _ (reply.Already (Hard number)) refl
  row-own_hard Success stamp =
      Reads (Up 0) (reply.Unmarked (Hard number)) (clears _ _ refl (λ fit. fit)) tt (refl, refl) (λ room. refl)
  row-own_hard Release stamp =
      Reads (Up 0) (reply.Released (Hard number)) (clears _ _ refl (λ fit. fit)) refl (refl, refl) (λ room. refl)

  row-others : (op : Op) (found : ServerState) (mark : Mark) → is_plain (look_reply mark) ≡ true → Row s number op found (λ room. on_others op mark)
  row-others LookUp found mark plain = plain-row LookUp found (look_reply mark) plain
  row-others SoftFailure found mark plain = plain-row SoftFailure found (reply.Already mark) refl
  row-others HardFailure found mark plain = plain-row HardFailure found (reply.Already mark) refl
  row-others Success found mark plain = plain-row Success found (reply.Already mark) refl
  row-others Release found mark plain = plain-row Release found (reply.NotMine mark) refl

  pub row : (op : Op) (mark : Mark) (stamp : ℕ)
      → Row s number op (record { mark = mark; stamp = stamp }) (λ room. transition s room number op mark stamp)
  row op (Up count) stamp = row-up op count stamp
  row op (Soft owner) stamp =
      either op _ (eqb owner number) (λ room. on_own_soft number op) (λ room. on_others op (Soft owner))
      (λ mine.
      let P : ℕ → Type 0 = λ it. Row s number op (record { mark = Soft it; stamp = stamp }) (λ room. on_own_soft number op) in
      subst P (sym (eqb-true owner number mine)) (row-own_soft op stamp))
      (λ theirs. row-others op _ (Soft owner) refl)
  row op (Hard owner) stamp =
      either op _ (eqb owner number) (λ room. on_own_hard number op) (λ room. on_others op (Hard owner))
      (λ mine.
      let P : ℕ → Type 0 = λ it. Row s number op (record { mark = Hard it; stamp = stamp }) (λ room. on_own_hard number op) in
      subst P (sym (eqb-true owner number mine)) (row-own_hard op stamp))
      (λ theirs. row-others op _ (Hard owner) refl)

-- ---- replies of the tracker

-- a transition where there are so many soft marks: no reply is Contended, and Full only where no room is left
pub record IsSound (limit softs : ℕ) (given : Transition) : Type 0 where
  pub contended : given.reply ≢ reply.Contended
  pub full : given.reply ≡ reply.Full → limit ≤ softs

pub transition-sound : (s : Settings) (limit softs number : ℕ) (op : Op) (mark : Mark) (stamp : ℕ)
    → IsSound limit softs (transition s (ltb softs limit) number op mark stamp)
transition-sound s limit softs number op mark stamp = sound (row s number op mark stamp)
  where
    P : Transition → Type 0
    P = IsSound limit softs

    puts-sound : (new : Mark) (answer : Reply) → is_plain answer ≡ true → P (becomes new answer)
    puts-sound new answer plain =
        record { contended = plain≢ answer reply.Contended plain refl; full = λ e. absurd (plain≢ answer reply.Full plain refl e) }

    sound : Row s number op (record { mark = mark; stamp = stamp }) (λ room. transition s room number op mark stamp)
        → P (transition s (ltb softs limit) number op mark stamp)
    sound (Stays answer plain is) =
        subst P (sym (is (ltb softs limit))) (record { contended = plain.contended; full = λ e. absurd (plain.full e) })
    sound (Takes soft fresh is) =
        subst P (sym (is (ltb softs limit)))
        (cond_both (ltb softs limit) (becomes (Soft number) reply.TookSoft) (stays reply.Full) P
        (λ room. puts-sound (Soft number) reply.TookSoft refl)
        (λ above. record { contended = λ e. cc; full = λ e. ltb-false softs limit above }))
    sound (Reads new answer put can by is) = subst P (sym (is (ltb softs limit))) (puts-sound new answer put.plain)
    sound (Loosens new answer put can own is) = subst P (sym (is (ltb softs limit))) (puts-sound new answer put.plain)

-- ---- the first look of a try

-- on what it found, the operation answers and changes this, whatever room there is
abbrev pub Decides : Settings → ℕ → Op → ServerState → Transition → Type 0
Decides s number op found given = (room : Bool) → transition s room number op found.mark found.stamp ≡ given

-- on what it found, the operation is the soft failure that marks
abbrev pub Marks : Settings → ℕ → Op → ServerState → Type 0
Marks s number op found =
    (room : Bool) → transition s room number op found.mark found.stamp ≡ cond room (becomes (Soft number) reply.TookSoft) (stays reply.Full)

unmarked-soft : (number : ℕ) (now found : ServerState) (mark : Mark) → IsFoundBy number now found mark → is_soft mark ≡ false
unmarked-soft number now found (Up count) by = refl
unmarked-soft number now found (Soft owner) by = absurd by
unmarked-soft number now found (Hard owner) by = refl

-- what holds of each thing that the look may lead to
pub from_start-is : (s : Settings) (call : Call) (found : ServerState) (P : Decision → Type 0)
    → ((answer : Reply) → IsAnswer found.mark answer → Decides s call.number call.op found (stays answer) → P (Answers answer))
    → (call.op ≡ SoftFailure → IsUnmarkedUnworn found → Marks s call.number call.op found → P (goes call (AtThreshold found)))
    → ((mark : Mark) (answer : Reply) → IsPut s call.number found mark answer → CanRead call.op call.number found.mark
    → IsFoundBy call.number found found found.mark → Decides s call.number call.op found (becomes mark answer)
    → P (goes call (Read found mark answer)))
    → ((mark : Mark) (answer : Reply) → IsPut s call.number found mark answer → CanLoosen call.op → found.mark ≡ Soft call.number
    → Decides s call.number call.op found (becomes mark answer) → P (goes call (Loosening found mark answer)))
    → P (from_start s call found)
from_start-is s call found P answers marks reads loosens = by_row (row s call.number call.op found.mark found.stamp)
  where
    Q : Transition → Type 0
    Q given = P (sets_out call found given.reply given.change)

    by_row : Row s call.number call.op found (λ room. transition s room call.number call.op found.mark found.stamp) → P (from_start s call found)
    by_row (Stays answer is_answer is) = subst Q (sym (is true)) (answers answer is_answer is)
    by_row (Takes soft fresh is) = subst Q (sym (is true)) (marks soft fresh is)
    by_row (Reads mark answer put can by is) =
        let to : puts call found mark answer ≡ goes call (Read found mark answer) =
        cond-false _ _ _ put.soft ∙ cond-false _ _ _ (unmarked-soft call.number found found found.mark by) in
        subst Q (sym (is true)) (subst P (sym to) (reads mark answer put can by is))
    by_row (Loosens mark answer put can own is) =
        let to : puts call found mark answer ≡ goes call (Loosening found mark answer) =
        cond-false _ _ _ put.soft ∙ cond-true _ _ _ (ap is_soft own) in
        subst Q (sym (is true)) (subst P (sym to) (loosens mark answer put can own is))

-- Which replies stand for a change.
use Rattle.std.proofs.Common.{◌≡◌, ℕ, ◌+◌, Bool, true, false, cond, eqb, ltb, leb, Option, Some}
use Rattle.std.proofs.Common.{None, refl, subst}
use Rattle.std.proofs.lemmas.Bool.{cond_both}
use Rattle.tko_model.specs.declared.mark.Mark.{Mark}
use Rattle.tko_model.specs.declared.mark.Mark.TheVariants.{Up, Soft, Hard}
use Rattle.tko_model.specs.declared.mark.Op.{Op}
use Rattle.tko_model.specs.declared.mark.Op.TheVariants.{LookUp, SoftFailure, HardFailure, Success}
use Rattle.tko_model.specs.declared.mark.Op.TheVariants.{Release}
use Rattle.tko_model.specs.declared.mark.Reply.{Reply}
use Rattle.tko_model.specs.declared.mark.Reply.TheVariants as reply
use Rattle.tko_model.specs.Settings.{Settings}
use Rattle.tko_model.specs.declared.state.ServerState.{ServerState}
use Rattle.tko_model.specs.declared.transition.Transition.{Transition}
use Rattle.tko_model.specs.Looks.{look_reply}
use Rattle.tko_model.specs.Limits.{worn}
use Rattle.tko_model.specs.Tracker.{becomes, on_others, on_own_hard, on_own_soft, on_soft_failure}
use Rattle.tko_model.specs.Tracker.{on_unmarked, stays, transition, unless_worn}
use Rattle.tko_steps.specs.declared.phase.Call.{Call}
use Rattle.tko_table.specs.History.{is_change}
use Rattle.tko_table.specs.Rule.{Puts}

-- ---- replies

abbrev is_some : Option Mark → Bool
is_some None = false
is_some (Some mark) = true

-- the reply stands for a change exactly where there is one
abbrev IsSaid : Transition → Type 0
IsSaid given = is_change given.reply ≡ is_some given.change

said-look : (mark : Mark) → IsSaid (stays (look_reply mark))
said-look (Up count) = refl
said-look (Soft owner) = refl
said-look (Hard owner) = refl

said-others : (op : Op) (mark : Mark) → IsSaid (on_others op mark)
said-others LookUp mark = said-look mark
said-others SoftFailure mark = refl
said-others HardFailure mark = refl
said-others Success mark = refl
said-others Release mark = refl

said-own_soft : (thread : ℕ) (op : Op) → IsSaid (on_own_soft thread op)
said-own_soft thread LookUp = refl
said-own_soft thread SoftFailure = refl
said-own_soft thread HardFailure = refl
said-own_soft thread Success = refl
said-own_soft thread Release = refl

said-own_hard : (thread : ℕ) (op : Op) → IsSaid (on_own_hard thread op)
said-own_hard thread LookUp = refl
said-own_hard thread SoftFailure = refl
said-own_hard thread HardFailure = refl
said-own_hard thread Success = refl
said-own_hard thread Release = refl

said-unless_worn : (stamp : ℕ) (given : Transition) → IsSaid given
    → IsSaid (unless_worn stamp given)
said-unless_worn stamp given said =
    cond_both (leb worn stamp) (stays reply.Worn) given IsSaid (λ old. refl) (λ fresh. said)

said-soft_failure : (s : Settings) (room : Bool) (thread count : ℕ)
    → IsSaid (on_soft_failure s room thread count)
said-soft_failure s room thread count =
    let marks = cond room (becomes (Soft thread) reply.TookSoft) (stays reply.Full) in
    cond_both (ltb (count + 1) s.failures)
    (becomes (Up (count + 1)) (reply.Counted (count + 1))) marks IsSaid
    (λ low. refl)
    (λ last. cond_both room (becomes (Soft thread) reply.TookSoft) (stays reply.Full) IsSaid
    (λ e. refl) (λ e. refl))

said-unmarked : (s : Settings) (room : Bool) (thread : ℕ) (op : Op) (count stamp : ℕ)
    → IsSaid (on_unmarked s room thread op count stamp)
said-unmarked s room thread LookUp count stamp = refl
said-unmarked s room thread SoftFailure count stamp =
    said-unless_worn stamp (on_soft_failure s room thread count)
    (said-soft_failure s room thread count)
said-unmarked s room thread HardFailure count stamp =
    said-unless_worn stamp (becomes (Hard thread) reply.TookHard) refl
said-unmarked s room thread Success count stamp =
    cond_both (eqb count 0) (stays reply.Clean)
    (unless_worn stamp (becomes (Up 0) (reply.Reset count))) IsSaid
    (λ clean. refl) (λ counted. said-unless_worn stamp (becomes (Up 0) (reply.Reset count)) refl)
said-unmarked s room thread Release count stamp = refl

said : (s : Settings) (room : Bool) (thread : ℕ) (op : Op) (mark : Mark) (stamp : ℕ)
    → IsSaid (transition s room thread op mark stamp)
said s room thread op (Up count) stamp = said-unmarked s room thread op count stamp
said s room thread op (Soft owner) stamp =
    cond_both (eqb owner thread) (on_own_soft thread op) (on_others op (Soft owner)) IsSaid
    (λ mine. said-own_soft thread op) (λ theirs. said-others op (Soft owner))
said s room thread op (Hard owner) stamp =
    cond_both (eqb owner thread) (on_own_hard thread op) (on_others op (Hard owner)) IsSaid
    (λ mine. said-own_hard thread op) (λ theirs. said-others op (Hard owner))

pub becomes-change : (s : Settings) (room : Bool) (thread : ℕ) (op : Op) (mark : Mark) (stamp : ℕ)
    (new : Mark) (answer : Reply)
    → transition s room thread op mark stamp ≡ becomes new answer → is_change answer ≡ true
becomes-change s room thread op mark stamp new answer is =
    subst IsSaid is (said s room thread op mark stamp)

pub stays-no_change : (s : Settings) (room : Bool) (thread : ℕ) (op : Op) (mark : Mark) (stamp : ℕ)
    (answer : Reply)
    → transition s room thread op mark stamp ≡ stays answer → is_change answer ≡ false
stays-no_change s room thread op mark stamp answer is =
    subst IsSaid is (said s room thread op mark stamp)

pub puts-change : (s : Settings) (call : Call) (found : ServerState) (mark : Mark) (answer : Reply)
    → Puts s call found mark answer → is_change answer ≡ true
puts-change s call found mark answer puts =
    becomes-change s true call.number call.op found.mark found.stamp mark answer (puts true)

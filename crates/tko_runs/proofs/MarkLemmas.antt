-- The marks that the sequential tracker leaves in place of others, and the words that they make.
use Rattle.std.proofs.Common.{◌≡◌, ℕ, ◌<◌, Bool, true, false, cond, eqb, Some, None, ◌⊎◌, inl, inr}
use Rattle.std.proofs.Common.{refl, ap}
use Rattle.std.proofs.lemmas.Bool.{eqb-true}
use Rattle.tko_model.specs.declared.mark.Mark.{Mark}
use Rattle.tko_model.specs.declared.mark.Mark.TheVariants.{Up, Soft, Hard}
use Rattle.tko_model.specs.declared.mark.Op.{Op}
use Rattle.tko_model.specs.declared.mark.Op.TheVariants.{LookUp, SoftFailure, HardFailure}
use Rattle.tko_model.specs.declared.mark.Op.TheVariants.{Success, Release}
use Rattle.tko_model.specs.declared.mark.Reply.{Reply}
use Rattle.tko_model.specs.declared.mark.Reply.TheVariants as reply
use Rattle.tko_model.specs.Settings.{Settings}
use Rattle.tko_model.specs.declared.state.ServerState.{ServerState}
use Rattle.tko_model.specs.declared.transition.Transition.{Transition}
use Rattle.tko_model.specs.Tracker.{IsFit, becomes, on_others, on_own_hard, on_own_soft}
use Rattle.tko_model.specs.Tracker.{stays, transition}
use Rattle.tko_model.specs.Looks.{look_reply}
use Rattle.tko_runs.specs.Words.{CanMark, IsValid}
use Rattle.tko_steps.specs.declared.step.StepKind.TheVariants as kind
use Rattle.tko_steps.specs.Owners.{owner_of}
use Rattle.tko_steps.specs.Steps.{kind_of_exchange}
use Rattle.tko_steps.specs.Invariant.{IsFoundBy, IsOwnOrUp}
use Rattle.tko_steps.proofs.RoomLemmas.{stamp-fits}

unchanged : (answer given : Reply) (mark : Mark) → stays answer ≡ becomes mark given → ⊥
unchanged answer given mark e =
    let change : None ≡ Some mark = ap (λ (t : Transition). t.change) e in cc

same_change : (one other : Mark) (answer given : Reply) → becomes one answer ≡ becomes other given
    → other ≡ one
same_change one other answer given e =
    let change : Some one ≡ Some other = ap (λ (t : Transition). t.change) e in cc

others-none : (op : Op) (on mark : Mark) (given : Reply) → on_others op on ≡ becomes mark given → ⊥
others-none LookUp on mark given e = unchanged (look_reply on) given mark e
others-none SoftFailure on mark given e = unchanged (reply.Already on) given mark e
others-none HardFailure on mark given e = unchanged (reply.Already on) given mark e
others-none Success on mark given e = unchanged (reply.Already on) given mark e
others-none Release on mark given e = unchanged (reply.NotMine on) given mark e

own_soft-mark : (number : ℕ) (op : Op) (mark : Mark) (given : Reply) → on_own_soft number op
    ≡ becomes mark given
    → (mark ≡ Up 0) ⊎ (mark ≡ Hard number)
own_soft-mark number LookUp mark given e =
    absurd (unchanged (look_reply (Soft number)) given mark e)
own_soft-mark number SoftFailure mark given e =
    absurd (unchanged (reply.Already (Soft number)) given mark e)
own_soft-mark number HardFailure mark given e =
    inr (same_change (Hard number) mark reply.Hardened given e)
own_soft-mark number Success mark given e =
    inl (same_change (Up 0) mark (reply.Unmarked (Soft number)) given e)
own_soft-mark number Release mark given e =
    inl (same_change (Up 0) mark (reply.Released (Soft number)) given e)

own_hard-mark : (number : ℕ) (op : Op) (mark : Mark) (given : Reply) → on_own_hard number op
    ≡ becomes mark given → mark ≡ Up 0
own_hard-mark number LookUp mark given e =
    absurd (unchanged (look_reply (Hard number)) given mark e)
own_hard-mark number SoftFailure mark given e =
    absurd (unchanged (reply.Already (Hard number)) given mark e)
own_hard-mark number HardFailure mark given e =
    absurd (unchanged (reply.Already (Hard number)) given mark e)
own_hard-mark number Success mark given e =
    same_change (Up 0) mark (reply.Unmarked (Hard number)) given e
own_hard-mark number Release mark given e =
    same_change (Up 0) mark (reply.Released (Hard number)) given e

soft-mark : (test : Bool) (owner number : ℕ) (op : Op) (mark : Mark) (given : Reply)
    → eqb owner number ≡ test
    → cond test (on_own_soft number op) (on_others op (Soft owner)) ≡ becomes mark given
    → (mark ≡ Up 0) ⊎ (mark ≡ Hard owner)
soft-mark true owner number op mark given same e =
    rw (eqb-true owner number same) (own_soft-mark number op mark given e)
soft-mark false owner number op mark given same e =
    absurd (others-none op (Soft owner) mark given e)

hard-mark : (test : Bool) (owner number : ℕ) (op : Op) (mark : Mark) (given : Reply)
    → cond test (on_own_hard number op) (on_others op (Hard owner)) ≡ becomes mark given → mark
    ≡ Up 0
hard-mark true owner number op mark given e = own_hard-mark number op mark given e
hard-mark false owner number op mark given e = absurd (others-none op (Hard owner) mark given e)

own_soft-can : (s : Settings) (held owner : ℕ) (mark : Mark) → (mark ≡ Up 0) ⊎ (mark ≡ Hard owner)
    → CanMark s held kind.Own (Soft owner) mark
own_soft-can s held owner mark (inl up) = rw up (refl, refl)
own_soft-can s held owner mark (inr hard) = rw hard (refl, refl)

-- an exchange of what the tracker decides of an operation leaves what its kind can leave
pub decided-can : (s : Settings) (held number : ℕ) (op : Op) (old mark : Mark) (stamp : ℕ)
    (given : Reply) → IsOwnOrUp number mark
    → number < s.threads → transition s true number op old stamp ≡ becomes mark given
    → CanMark s held (kind_of_exchange old mark) old mark
decided-can s held number op (Up count) (Up other) stamp given own low e = refl
decided-can s held number op (Up count) (Soft other) stamp given own low e = absurd own
decided-can s held number op (Up count) (Hard other) stamp given own low e = (refl, rw own low)
decided-can s held number op (Soft owner) mark stamp given own low e =
    own_soft-can s held owner mark (soft-mark (eqb owner number) owner number op mark given refl e)
decided-can s held number op (Hard owner) mark stamp given own low e =
    rw (hard-mark (eqb owner number) owner number op mark given e) (refl, refl)

-- a soft mark of an unmarked server
pub fresh-can : (s : Settings) (held number : ℕ) (old : Mark) → owner_of old ≡ None
    → number < s.threads → 0 < held
    → CanMark s held (kind_of_exchange old (Soft number)) old (Soft number)
fresh-can s held number (Up count) none low some = (refl, low, some)
fresh-can s held number (Soft owner) none low some = cc
fresh-can s held number (Hard owner) none low some = cc

-- what a thread may write is a valid word
pub write-valid : (s : Settings) (number : ℕ) (mark : Mark) (stamp : ℕ) → IsFit s mark stamp
    → IsOwnOrUp number mark → number < s.threads
    → IsValid s (record { mark = mark; stamp = stamp })
write-valid s number (Up count) stamp fit own low = (fit.0, stamp-fits s (Up count) stamp fit)
write-valid s number (Soft owner) stamp fit own low = absurd own
write-valid s number (Hard owner) stamp fit own low =
    (rw own low, stamp-fits s (Hard owner) stamp fit)

-- what was found marked still stands
pub found-stands : (number : ℕ) (now found : ServerState) (mark : Mark)
    → IsFoundBy number now found mark
    → (owner : ℕ) → owner_of mark ≡ Some owner → now ≡ found
found-stands number now found (Up count) by owner owned = cc
found-stands number now found (Soft at) by owner owned = absurd by
found-stands number now found (Hard at) by owner owned = by.1

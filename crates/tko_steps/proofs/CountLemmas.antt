-- Counts over lists: after one place has changed, and of a list of equal items.
use Rattle.std.proofs.Common.{◌≡◌, ℕ, zero, suc, ◌+◌, ◌<◌, ◌≤◌, Bool, true, false, ◌&&◌, cond, List, length, get_or, set, count_by, replicate, refl, sym, ap, ◌∙◌, arith, length-set, get_or-set_same, get_or-set_other}
use Rattle.std.proofs.lemmas.Bool.{and_parts, eq-eqb, ne_eqb}
use Rattle.std.proofs.lemmas.List.Sums.{get_or-le-sum_by, sum_by-cons, sum_by-set}
use Rattle.tko_model.specs.declared.mark.Mark.TheVariants.{Up}
use Rattle.tko_model.specs.Settings.{Settings}
use Rattle.tko_model.specs.declared.state.ServerState.{ServerState}
use Rattle.tko_model.specs.Groups.{group_of, is_in}
use Rattle.tko_model.specs.Tracker.{is_soft}
use Rattle.tko_model.proofs.GroupLemmas.{soft_bit}
use Rattle.tko_steps.specs.declared.phase.Slots.{Slots}
use Rattle.tko_steps.specs.declared.phase.ThreadState.{ThreadState}
use Rattle.tko_steps.specs.declared.phase.ThreadState.TheVariants.{NotEnrolled, Idle, InCall}
use Rattle.tko_steps.specs.Core.{no_slots, slots_at}
use Rattle.tko_steps.specs.Owners.{IsOwner}
use Rattle.tko_steps.specs.Invariant.{holds, holds_at, holds_in, is_loose, is_loose_at, is_loose_in}

-- a server as it is read where none is there
abbrev pub unread : ServerState
unread = record { mark = Up 0; stamp = 0 }

-- one where a test passes
abbrev pub bit : Bool → ℕ
bit test = cond test 1 0

-- a count after one place has changed
pub count_by-set : {X : Type 0} (p : X → Bool) (xs : List X) (i : ℕ) (new d : X) → i < length xs
    → count_by p (set xs i new) + bit (p (get_or xs i d)) ≡ count_by p xs + bit (p new)
count_by-set p xs i new d inside = sum_by-set (λ x. cond (p x) 1 0) xs i new d inside

pub bit-le-count_by : {X : Type 0} (p : X → Bool) (xs : List X) (i : ℕ) (d : X) → i < length xs
    → bit (p (get_or xs i d)) ≤ count_by p xs
bit-le-count_by p xs i d inside = get_or-le-sum_by (λ x. cond (p x) 1 0) xs i d inside

pub get_or-replicate_same : {X : Type 0} (n i : ℕ) (x : X) → get_or (replicate n x) i x ≡ x
get_or-replicate_same zero i x = refl
get_or-replicate_same (suc n) zero x = refl
get_or-replicate_same (suc n) (suc i) x = get_or-replicate_same n i x

pub count_by-replicate : {X : Type 0} (p : X → Bool) (n : ℕ) (x : X) → p x ≡ false → count_by p (replicate n x) ≡ 0
count_by-replicate p zero x fails = refl
count_by-replicate p (suc n) x fails =
    let first : bit (p x) ≡ 0 = ap bit fails in
    omega (arith, sum_by-cons (λ y. cond (p y) 1 0) x (replicate n x), first, count_by-replicate p n x fails)

-- a server as a tracker opens names no thread
pub owner-replicate : (n : ℕ) (stamp server number : ℕ)
    → IsOwner (replicate n (record { mark = Up 0; stamp = stamp })) number server → ⊥
owner-replicate zero stamp server number e = cc
owner-replicate (suc n) stamp zero number e = cc
owner-replicate (suc n) stamp (suc server) number e = owner-replicate n stamp server number e

-- ---- the soft words, where that of one group now holds this

pub record AreCounts (old : List Slots) (group : ℕ) (now : Slots) (new : List Slots) : Type 0 where
  pub count : length new ≡ length old
  pub here : slots_at new group ≡ now
  pub others : (other : ℕ) → (other ≡ group → ⊥) → slots_at new other ≡ slots_at old other

pub counts-same : (slots : List Slots) (group : ℕ) → AreCounts slots group (slots_at slots group) slots
counts-same slots group = record { count = refl; here = refl; others = λ other apart. refl }

pub counts-set : (slots : List Slots) (group : ℕ) (now : Slots) → group < length slots → AreCounts slots group now (set slots group now)
counts-set slots group now inside =
    record {
      count = length-set slots group now;
      here = get_or-set_same slots group now no_slots inside;
      others = λ other apart. get_or-set_other slots group other now no_slots apart;
    }

-- ---- what is counted of a group

pub in_own : (s : Settings) (server : ℕ) → is_in s (group_of s server) server ≡ true
in_own s server = eq-eqb (group_of s server) (group_of s server) refl

pub in_other : (s : Settings) (server group : ℕ) → (group ≡ group_of s server → ⊥) → is_in s group server ≡ false
in_other s server group apart = ne_eqb (group_of s server) group (λ same. apart (sym same))

pub and_true : (test other : Bool) → other ≡ true → (test && other) ≡ test
and_true true other is = is
and_true false other is = refl

pub and_false : (test other : Bool) → other ≡ false → (test && other) ≡ false
and_false true other is = is
and_false false other is = refl

-- a thread without a call, or whose call is on this server
abbrev pub IsOn : ℕ → ThreadState → Type 0
IsOn server (InCall call phase) = call.server ≡ server
IsOn server state = Unit {0}

module _ (s : Settings) (server : ℕ) where
  in-same : (at : ℕ) → at ≡ server → is_in s (group_of s server) at ≡ true
  in-same at same = ap (λ (it : ℕ). is_in s (group_of s server) it) same ∙ in_own s server

  in-apart : (at group : ℕ) → at ≡ server → (group ≡ group_of s server → ⊥) → is_in s group at ≡ false
  in-apart at group same apart = ap (λ (it : ℕ). is_in s group it) same ∙ in_other s server group apart

  pub holds-own : (state : ThreadState) → IsOn server state → holds_in s (group_of s server) state ≡ holds state
  holds-own NotEnrolled on = refl
  holds-own (Idle number) on = refl
  holds-own (InCall call phase) on = and_true (holds_at phase) _ (in-same call.server on)

  pub holds-other : (group : ℕ) (state : ThreadState) → IsOn server state → (group ≡ group_of s server → ⊥) → holds_in s group state ≡ false
  holds-other group NotEnrolled on apart = refl
  holds-other group (Idle number) on apart = refl
  holds-other group (InCall call phase) on apart = and_false (holds_at phase) _ (in-apart call.server group on apart)

  pub loose-own : (state : ThreadState) → IsOn server state → is_loose_in s (group_of s server) state ≡ is_loose state
  loose-own NotEnrolled on = refl
  loose-own (Idle number) on = refl
  loose-own (InCall call phase) on = and_true (is_loose_at phase) _ (in-same call.server on)

  pub loose-other : (group : ℕ) (state : ThreadState) → IsOn server state → (group ≡ group_of s server → ⊥) → is_loose_in s group state ≡ false
  loose-other group NotEnrolled on apart = refl
  loose-other group (Idle number) on apart = refl
  loose-other group (InCall call phase) on apart = and_false (is_loose_at phase) _ (in-apart call.server group on apart)

  pub soft-own : (it : ServerState) → soft_bit s (group_of s server) server it ≡ bit (is_soft it.mark)
  soft-own it = ap bit (and_true (is_soft it.mark) _ (in_own s server))

  pub soft-other : (group : ℕ) (it : ServerState) → (group ≡ group_of s server → ⊥) → soft_bit s group server it ≡ 0
  soft-other group it apart = ap bit (and_false (is_soft it.mark) _ (in_other s server group apart))

pub holds_in-holds : (s : Settings) (group : ℕ) (state : ThreadState) → holds_in s group state ≡ true → holds state ≡ true
holds_in-holds s group NotEnrolled e = e
holds_in-holds s group (Idle number) e = e
holds_in-holds s group (InCall call phase) e = (and_parts (holds_at phase) (is_in s group call.server) e).0

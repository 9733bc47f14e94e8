-- Laws of a seat at a tracker in a lock: what a look-up and a release leave of a server's mark.
use Rattle.std.proofs.Common.{◌≡◌, ℕ, ◌+◌, ◌<◌, Bool, true, false, inl, inr, List, length, slice_set, Option, Some, None, refl, ap, sym, subst, ◌∙◌, arith}
use Rattle.std.proofs.lemmas.Bool.{cases_Bool, cases_eq, cond-false, cond-true, eqb-true}
use Rattle.std.proofs.Math.ListN.{length-set}
use Rattle.std.proofs.lemmas.List.{get_or-set_other, get_or-set_same}
use Rattle.tko_model.specs.Records.{Called}
use Rattle.std.specs.Prelude.{◌==◌, if◌then◌else◌, slice_index_or}
use Rattle.tko_model.specs.declared.mark.Mark.{Mark}
use Rattle.tko_model.specs.declared.mark.Mark.TheVariants.{Up, Soft, Hard}
use Rattle.tko_model.specs.declared.mark.Op.TheVariants.{LookUp, Release}
use Rattle.tko_model.specs.Settings.{Settings}
use Rattle.tko_model.specs.declared.state.ServerState.{ServerState}
use Rattle.tko_model.specs.declared.transition.Transition.{Transition}
use Rattle.tko_model.specs.Tracker.{Tracker, after, changed, has_room, server_at, transition, transition_on}
use Rattle.tko_model.specs.declared.look.Look.{Look}
use Rattle.tko_model.specs.declared.mark.Reply.{Reply}
use Rattle.tko_model.specs.declared.mark.Reply.TheVariants as reply
use Rattle.tko_model.specs.Looks.{look_of}
use Rattle.tko_health.specs.Health.{look_item, reply_of_look}
use Rattle.tko_health.specs.Locked.{IsLockedStep, IsTrackerFound, OwnsNone, SeatState, is_own, seat_noted}

abbrev room_in : Tracker → ℕ → Bool
room_in tracker server = has_room tracker.settings tracker.servers server

look_by_owner : (thread : ℕ) (mark : Mark) (own : Bool) (one other : Transition) → one.change ≡ None → other.change ≡ None
    → (if own then one else other).change ≡ None
look_by_owner thread mark true one other e f = e
look_by_owner thread mark false one other e f = f

look_change : (s : Settings) (room : Bool) (thread : ℕ) (mark : Mark) (stamp : ℕ)
    → (transition s room thread LookUp mark stamp).change ≡ None
look_change s room thread (Up count) stamp = refl
look_change s room thread (Soft owner) stamp = look_by_owner thread (Soft owner) (owner == thread) _ _ refl refl
look_change s room thread (Hard owner) stamp = look_by_owner thread (Hard owner) (owner == thread) _ _ refl refl

-- a look-up changes nothing
pub look_stays : (tracker : Tracker) (thread server : ℕ) → after tracker thread LookUp server ≡ tracker
look_stays tracker thread server =
    ap (λ (change : Option Mark). record tracker { servers = changed tracker.servers server change })
    (look_change tracker.settings (room_in tracker server) thread (server_at tracker.servers server).mark (server_at tracker.servers server).stamp)

look_reply_is : (s : Settings) (room : Bool) (thread server : ℕ) (mark : Mark) (stamp : ℕ)
    → reply_of_look (look_of server mark) ≡ (transition s room thread LookUp mark stamp).reply
look_reply_is s room thread server (Up count) stamp = refl
look_reply_is s room thread server (Soft owner) stamp =
    let P : Transition → Type 0 = λ given. reply.Marked (Soft owner) ≡ given.reply in
    elim (cases_Bool (owner == thread)) [
      | inl e ↦ subst P (sym (cond-true _ _ _ e)) (ap (λ n. reply.Marked (Soft n)) (eqb-true _ _ e))
      | inr e ↦ subst P (sym (cond-false _ _ _ e)) refl
    ]
look_reply_is s room thread server (Hard owner) stamp =
    let P : Transition → Type 0 = λ given. reply.Marked (Hard owner) ≡ given.reply in
    elim (cases_Bool (owner == thread)) [
      | inl e ↦ subst P (sym (cond-true _ _ _ e)) (ap (λ n. reply.Marked (Hard n)) (eqb-true _ _ e))
      | inr e ↦ subst P (sym (cond-false _ _ _ e)) refl
    ]

-- what a look-up of the tracker found is a step of the record
pub locked_look : {settings : Settings} {tracker : Tracker} {old new : SeatState} {server : ℕ} {found : Look}
    → IsTrackerFound settings tracker → found ≡ look_of server (server_at tracker.servers server).mark
    → new ≡ seat_noted server (server_at tracker.servers server).mark old
    → IsLockedStep settings old (look_item server found) new
locked_look {tracker} {old} {server} is found seat = record {
  tracker = tracker;
  found = is;
  reply = ap reply_of_look found ∙ look_reply_is tracker.settings (room_in tracker server) old.thread server
      (server_at tracker.servers server).mark (server_at tracker.servers server).stamp;
  seat = seat ∙ ap (λ (t : Tracker). seat_noted server (server_at t.servers server).mark old) (sym (look_stays tracker old.thread server));
}

-- the mark that a server with this mark has after this change is not the thread's
abbrev IsLeft : ℕ → Mark → Option Mark → Type 0
IsLeft thread mark None = is_own thread mark ≡ false
IsLeft thread mark (Some new) = is_own thread new ≡ false

left : (servers : List ServerState) (server thread : ℕ) → server < length servers → (change : Option Mark)
    → IsLeft thread (server_at servers server).mark change
    → is_own thread (server_at (changed servers server change) server).mark ≡ false
left servers server thread within None is = is
left servers server thread within (Some mark) is =
    ap (λ (it : ServerState). is_own thread it.mark) (get_or-set_same servers server _ _ within) ∙ is

released : (s : Settings) (room : Bool) (thread : ℕ) (mark : Mark) (stamp : ℕ)
    → IsLeft thread mark (transition s room thread Release mark stamp).change
released s room thread (Up count) stamp = refl
released s room thread (Soft owner) stamp =
    let P : Transition → Type 0 = λ given. IsLeft thread (Soft owner) given.change in
    elim (cases_Bool (owner == thread)) [
      | inl e ↦ subst P (sym (cond-true _ _ _ e)) refl
      | inr e ↦ subst P (sym (cond-false _ _ _ e)) e
    ]
released s room thread (Hard owner) stamp =
    let P : Transition → Type 0 = λ given. IsLeft thread (Hard owner) given.change in
    elim (cases_Bool (owner == thread)) [
      | inl e ↦ subst P (sym (cond-true _ _ _ e)) refl
      | inr e ↦ subst P (sym (cond-false _ _ _ e)) e
    ]

-- after a release a server's mark is not the thread's
pub release_leaves : (tracker : Tracker) (thread server : ℕ) → server < length tracker.servers
    → is_own thread (server_at (after tracker thread Release server).servers server).mark ≡ false
release_leaves tracker thread server within =
    left tracker.servers server thread within (transition_on tracker thread Release server).change
    (released tracker.settings (room_in tracker server) thread (server_at tracker.servers server).mark (server_at tracker.servers server).stamp)

-- the marks of the servers before this one are not the thread's
pub record NoneBefore (count : ℕ) (owned : List Bool) : Type 0 where
  pub each : (k : ℕ) (d : Bool) → k < count → slice_index_or owned k d ≡ false

pub none_before : (owned : List Bool) → NoneBefore 0 owned
none_before owned = record { each = λ k d within. absurd (omega (arith, within)) }

-- nor is that of the next server, once it is known
pub none_more : {count : ℕ} {owned : List Bool} {own : Bool} → count < length owned → own ≡ false → NoneBefore count owned
    → NoneBefore (count + 1) (slice_set owned count own)
none_more {count} {owned} {own} within none first = record {
  each = λ k d below. elim (cases_eq k count) [
    | inl same ↦ ap (λ n. slice_index_or (slice_set owned count own) n d) same ∙ get_or-set_same owned count own d within ∙ none
    | inr apart ↦ get_or-set_other owned count k own d apart ∙ first.each k d (omega (arith, below, apart))
  ];
}

-- a thread that released a server, and those before it, has no mark of its own there
pub seat_released : {settings : Settings} {old new : SeatState} {server : ℕ} {answer : Reply}
    → IsLockedStep settings old (Called Release server answer) new → server < settings.servers
    → length old.owned ≡ settings.servers → NoneBefore server old.owned
    → NoneBefore (server + 1) new.owned × (length new.owned ≡ settings.servers)
seat_released {settings} {old} {server} step below count first =
    let servers = ap (λ (s : Settings). s.servers) step.found.opened in
    let within : server < length step.tracker.servers = omega (arith, below, servers, step.found.within.count) in
    let P : SeatState → Type 0 = λ seat. NoneBefore (server + 1) seat.owned × (length seat.owned ≡ settings.servers) in
    subst P (sym step.seat)
    (none_more (omega (arith, below, count)) (release_leaves step.tracker old.thread server within) first, length-set _ _ _ ∙ count)

-- and where that is each server, none is its own
pub none_of_all : (seat : SeatState) {count : ℕ} → length seat.owned ≡ count → NoneBefore count seat.owned → OwnsNone seat
none_of_all seat len all = λ k d within. all.each k d (omega (arith, len, within))

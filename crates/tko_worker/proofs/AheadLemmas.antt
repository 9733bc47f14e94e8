-- What lies ahead of one server more.
use Rattle.std.proofs.Common.{◌≡◌, ◌≢◌, ◌<◌, ◌≤◌, ◌+◌, ℕ, List, [], ◌∷◌, sym, ap, subst, ◌∙◌, ◌⊎◌, inl, inr, refl, arith, Option, Some, None}
use Rattle.std.specs.Prelude.{◌&&◌, ◌||◌, length, option_map, slice_get, slice_set}
use Rattle.std.specs.Option.{option_and_then}
use Rattle.std.proofs.lemmas.Bool.{OnFalse_at, OnFalse_from, OnTrue_at, OnTrue_from, and_parts, cases_lt, cond-false, cond-true, le-leb, lt-leb, or_parts}
use Rattle.tko_roster.proofs.SlotLemmas.{get_set_other, get_set_same}
use Rattle.tko_pipe.specs.declared.waiter.Waiter.{Waiter}
use Rattle.tko_pipe.specs.declared.window.Window.{Window}
use Rattle.tko_pipe.specs.Pipes.{PipeState, first_late, late_at}
use Rattle.tko_mux.specs.Lines.{LineState, first_on}
use Rattle.tko_port.specs.declared.peer.Peer.{Peer}
use Rattle.tko_port.specs.Ports.{PortState}
use Rattle.tko_port.specs.Wires.{CannotWriteTo, IsOpen, OtherLines, due_at, due_of, first_at}
use Rattle.tko_worker.specs.declared.resting.Outlook.{Outlook}
use Rattle.tko_worker.specs.Turns.{AreAhead, AreWritten, IsAhead, IsNextDue, IsWanted, NoneWanted, ServerRests, ServersRest, earlier, socket_at}

-- what holds of so many servers and of the next
each_next : (P : ℕ → Type 0) (count : ℕ) → ((n : ℕ) → n < count → P n) → P count
    → (n : ℕ) → n < count + 1 → P n
each_next P count before it n below = elim (cases_lt n count) [
  | inl less ↦ before n less
  | inr most ↦ (let same : count ≡ n = omega arith in subst P same it)
]

nobody_on : (waiters : List Waiter) (window : Window) (limit : ℕ)
    → first_late waiters window limit ≡ None → slice_get waiters 0 ≡ None
nobody_on [] window limit none = refl
nobody_on (first ∷ others) window limit none = absurd (let f = none in cc)

nobody_with : (pipe : Option PipeState) → option_and_then late_at pipe ≡ None
    → first_on pipe ≡ None
nobody_with None none = refl
nobody_with (Some it) none = nobody_on it.waiters it.window it.limit none

-- where no response can be late, nobody waits for one
pub nobody_waits : (line : Option LineState) → due_of line ≡ None → first_at line ≡ None
nobody_waits None none = refl
nobody_waits (Some line) none = nobody_with line.pipe none

-- the first moment is the same where the lines are
due_moved : (lines new : List LineState) (count : ℕ) (next : Option ℕ)
    → ((n : ℕ) → n < count → slice_get new n ≡ slice_get lines n)
    → IsNextDue lines count next → IsNextDue new count next
due_moved lines new count None same before =
    λ n below. ap due_of (same n below) ∙ before n below
due_moved lines new count (Some moment) same before = (
  λ server due below at. before.0 server due below (sym (ap due_of (same server below)) ∙ at),
  (
    before.1.0,
    before.1.1,
    ap due_of (same before.1.0 before.1.1) ∙ before.1.2,
  ),
)

-- the moment of the next server, if it has one, is no earlier than this one
no_earlier : (lines : List LineState) (count moment x : ℕ) (its : Option ℕ)
    → ((server due : ℕ) → server < count → due_at lines server ≡ Some due → x ≤ due)
    → due_at lines count ≡ its → (its ≡ None) ⊎ ((its ≡ Some moment) × (x ≤ moment))
    → (server due : ℕ) → server < count + 1 → due_at lines server ≡ Some due → x ≤ due
no_earlier lines count moment x its before is last server due below at =
    elim (cases_lt server count) [
      | inl less ↦ before server due less at
      | inr most ↦ (
          let same : count ≡ server = omega arith in
          let its_due : its ≡ Some due = sym is ∙ ap (due_at lines) same ∙ at in
          elim last [
            | inl none ↦ (
                let e : None ≡ Some due = sym none ∙ its_due in
                absurd (let f : ⊥ = cc e in f))
            | inr some ↦ (
                let e : Some moment ≡ Some due = sym some.0 ∙ its_due in
                let v : moment ≡ due = cc in
                let w : x ≤ moment = some.1 in omega arith)
          ])
    ]

-- the first moment of one server more
due_next : (lines : List LineState) (count : ℕ) (first its : Option ℕ)
    → IsNextDue lines count first → due_at lines count ≡ its
    → IsNextDue lines (count + 1) (earlier first its)
due_next lines count None None before is =
    each_next (λ n. due_at lines n ≡ None) count before is
due_next lines count None (Some moment) before is = (
  no_earlier lines count moment moment (Some moment)
      (λ server due below at.
      (let e : None ≡ Some due = sym (before server below) ∙ at in
      absurd (let f : ⊥ = cc e in f)))
      is (inr (refl, omega arith)),
  (count, omega arith, is),
)
due_next lines count (Some first) None before is = (
  no_earlier lines count first first None before.0 is (inl refl),
  (before.1.0, (let below : before.1.0 < count = before.1.1 in omega arith), before.1.2),
)
due_next lines count (Some first) (Some moment) before is = elim (cases_lt moment first) [
  | inl less ↦ subst (IsNextDue lines (count + 1))
      (sym (cond-false _ _ _ (lt-leb first moment less))) (
        no_earlier lines count moment moment (Some moment)
            (λ server due below at.
            (let most : first ≤ due = before.0 server due below at in omega arith))
            is (inr (refl, omega arith)),
        (count, omega arith, is),
      )
  | inr most ↦ subst (IsNextDue lines (count + 1))
      (sym (cond-true _ _ _ (le-leb first moment most))) (
        no_earlier lines count moment first (Some moment) before.0 is (inr (refl, most)),
        (before.1.0, (let below : before.1.0 < count = before.1.1 in omega arith), before.1.2),
      )
]

-- the sockets once that of one server changed
socket_same : {L : Type 0} (port : L → PortState) (peers : List (Peer L)) (count : ℕ) (peer : Peer L)
    → count < length peers
    → socket_at port (slice_set peers count peer) count ≡ option_map port peer.socket
socket_same port peers count peer below =
    ap (option_and_then (λ it. option_map port it.socket)) (get_set_same peers count peer below)

socket_other : {L : Type 0} (port : L → PortState) (peers : List (Peer L)) (count : ℕ)
    (peer : Peer L) (n : ℕ) → n ≢ count
    → socket_at port (slice_set peers count peer) n ≡ socket_at port peers n
socket_other port peers count peer n apart =
    ap (option_and_then (λ it. option_map port it.socket)) (get_set_other peers count n peer apart)

module _ {L : Type 0} (port : L → PortState) (count : ℕ) (lines new : List LineState)
    (peers : List (Peer L)) (peer : Peer L) (within : count < length peers)
    (others : OtherLines count lines new) where
  -- what holds of the lines and sockets of the first servers, and of the next
  ends_next : (P : Option LineState → Option PortState → Type 0)
      → ((n : ℕ) → n < count → P (slice_get lines n) (socket_at port peers n))
      → P (slice_get new count) (option_map port peer.socket)
      → (n : ℕ) → n < count + 1 → P (slice_get new n) (socket_at port (slice_set peers count peer) n)
  ends_next P before it =
      each_next (λ n. P (slice_get new n) (socket_at port (slice_set peers count peer) n)) count
      (λ n below.
      (let apart : n ≢ count = λ same. (let f : ⊥ = omega arith in f) in
      subst (λ l. P l (socket_at port (slice_set peers count peer) n)) (sym (others n apart))
      (subst (P (slice_get lines n)) (sym (socket_other port peers count peer n apart))
      (before n below))))
      (subst (P (slice_get new count)) (sym (socket_same port peers count peer within)) it)

  -- nothing can be written to the first servers, and to the next
  pub written_next : AreWritten port lines peers count
      → (IsOpen (slice_get new count)
      → CannotWriteTo (slice_get new count) (option_map port peer.socket))
      → AreWritten port new (slice_set peers count peer) (count + 1)
  written_next before it = ends_next (λ l p. IsOpen l → CannotWriteTo l p) before it

  -- what lies ahead of the first servers, and of the next
  pub ahead_next : (now : ℕ) (ahead its both : Outlook) → AreAhead port now lines peers count ahead
      → IsAhead now (slice_get new count) (option_map port peer.socket) its
      → both.rests ≡ (ahead.rests && its.rests) → both.due ≡ earlier ahead.due its.due
      → both.wants ≡ (ahead.wants || its.wants)
      → AreAhead port now new (slice_set peers count peer) (count + 1) both
  ahead_next now ahead its both before it rests due wants = record {
    rests = OnTrue_from both.rests
        (ServersRest port now new (slice_set peers count peer) (count + 1)) (λ yes.
        (let parts = and_parts ahead.rests its.rests (sym rests ∙ yes) in
        ends_next (ServerRests now) (OnTrue_at parts.0 before.rests)
        (OnTrue_at parts.1 it.rests)));
    due = subst (IsNextDue new (count + 1)) (sym due) (
        due_next new count ahead.due its.due
        (due_moved lines new count ahead.due
        (λ n below. others n (λ same. (let f : ⊥ = omega arith in f))) before.due) (sym it.due));
    wants = OnFalse_from both.wants (NoneWanted port new (slice_set peers count peer) (count + 1))
        (λ no.
        (let parts = or_parts ahead.wants its.wants (sym wants ∙ no) in
        ends_next (λ l p. IsWanted l p → ⊥) (OnFalse_at parts.0 before.wants)
        (OnFalse_at parts.1 it.wants)));
  }

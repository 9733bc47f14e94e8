-- A server's socket and the line to it.
use Rattle.std.proofs.Common.{arith, inl, inr, ◌≡◌, ◌≢◌, ◌<◌, ◌≤◌, ℕ, Bool, true, false, List, [], ◌∷◌, ◌++◌, refl, sym, ap, ◌∙◌, length, take, drop, Option, Some, None}
use Rattle.std.specs.Bool.{OnFalse, OnTrue}
use Rattle.std.specs.Prelude.{◌==◌, not, IfSome, IsSome, slice_get}
use Rattle.std.specs.Option.{option_and_then}
use Rattle.std.proofs.lemmas.List.{append_cancel_left, take-append-drop}
use Rattle.std.proofs.lemmas.Bool.Decides.{eqb_tells}
use Rattle.std.proofs.lemmas.Option.{slice_get_within}
use Rattle.tko_pipe.specs.declared.fates.ShutCause.{ShutCause}
use Rattle.tko_pipe.specs.declared.link.Link.{Link}
use Rattle.tko_pipe.specs.declared.link.Link.TheVariants.{Connected, Connecting}
use Rattle.tko_pipe.specs.Pipes.{IsCause, IsWritten, PipeState, is_due_by, late_at}
use Rattle.tko_roster.proofs.SlotLemmas.{get_set_other, get_set_same}
use Rattle.tko_mux.specs.Lines.{IsOnLive, LineState, line_by, link_on, unwritten_on}
use Rattle.tko_mux.specs.Muxes.{HasNoneLeaving, IsOnLine}
use Rattle.tko_port.specs.Ports.{PortState as ReadyState}
use Rattle.tko_port.specs.Wires.{CannotWriteTo, IsGivenUp, IsHeld, IsNotWritable, IsOpen, OtherLines, is_first_late, link_at, unwritten_at}

-- what is known of the line to a server is known of its connection
pub connected_line : (line : Option LineState) → link_at line ≡ Some Connected
    → IfSome line (λ it. link_on it.pipe ≡ Some Connected)
connected_line None is = tt
connected_line (Some line) is = is

some_pipe : (pipe : Option PipeState) → link_on pipe ≡ Some Connected → IsSome pipe
some_pipe None is = absurd (let none : ⊥ = cc is in none)
some_pipe (Some it) is = refl

pub pipe_line : (line : Option LineState) → link_at line ≡ Some Connected
    → IfSome line (λ it. IsSome it.pipe)
pipe_line None is = tt
pipe_line (Some line) is = some_pipe line.pipe is

pub within_line : (line : Option LineState) (count : ℕ) → count ≤ length (unwritten_at line)
    → IfSome line (λ it. count ≤ length (unwritten_on it.pipe))
within_line None count within = tt
within_line (Some line) count within = within

pub cause_line : (line : Option LineState) (why : ShutCause)
    → ((pipe : PipeState) → IsCause pipe why)
    → IfSome line (λ it. (pipe : PipeState) → it.pipe ≡ Some pipe → IsCause pipe why)
cause_line None why is = tt
cause_line (Some line) why is = λ pipe same. is pipe

-- the line after a call on it, and the others
pub this_line : (did : LineState → LineState → Type 0) (old new : List LineState) (server : ℕ)
    → (it : IsOnLine did old server new) → slice_get new server ≡ Some it.now
this_line did old new server it =
    ap (λ (l : List LineState). slice_get l server) it.to
    ∙ get_set_same old server it.now (slice_get_within old server it.was it.from)

pub other_lines : (did : LineState → LineState → Type 0) (old new : List LineState) (server : ℕ)
    → IsOnLine did old server new → OtherLines server old new
other_lines did old new server it other apart =
    ap (λ (l : List LineState). slice_get l other) it.to
    ∙ get_set_other old server other it.now apart

-- a connection that was shut is not there any more
pub shut_link : (old new : List LineState) (server : ℕ) (why : ShutCause)
    → IsGivenUp old server why new → link_at (slice_get new server) ≡ None
shut_link old new server why it =
    let on = it.ends in
    let link = ap (λ (p : PipeState). p.link) on.ends.state in
    let line : it.now ≡ record { pipe = None; ended = Some on.now } =
    on.to ∙ ap (λ (k : Link). line_by k on.now) link in
    ap link_at (this_line _ old new server it ∙ ap Some line)

-- once so much was written, what is left is unwritten
left_unwritten : (old : List ℕ) (count : ℕ) (new : List ℕ) → old ≡ take count old ++ new
    → new ≡ drop count old
left_unwritten old count new front =
    append_cancel_left (take count old) new (drop count old)
    (sym front ∙ sym (take-append-drop count old))

pub written_left : (old new : List LineState) (server count : ℕ) (port : Option ReadyState)
    → IsOnLine (λ was it. IsOnLive (λ p q. IsWritten p (take count p.unwritten) q) was it)
    old server new
    → (drop count (unwritten_at (slice_get old server)) ≢ [] → IsNotWritable port)
    → CannotWriteTo (slice_get new server) port
written_left old new server count port it cannot link some =
    let on = it.ends in
    let before : unwritten_at (slice_get old server) ≡ on.was.unwritten =
    ap unwritten_at it.from ∙ ap unwritten_on on.from in
    let after : unwritten_at (slice_get new server) ≡ on.now.unwritten =
    ap unwritten_at (this_line _ old new server it)
    ∙ ap (λ (l : LineState). unwritten_on l.pipe) on.to in
    let left : on.now.unwritten ≡ drop count on.was.unwritten =
    left_unwritten on.was.unwritten count on.now.unwritten on.ends.front in
    cannot (λ none. some (after ∙ left ∙ sym (ap (drop count) before) ∙ none))

-- nothing can be written where no connection is
pub cannot_unmade : (line : Option LineState) (port : Option ReadyState)
    → link_at line ≡ None → CannotWriteTo line port
cannot_unmade line port none link some =
    let both : Some Connected ≡ None = sym link ∙ none in
    absurd (let f : ⊥ = cc both in f)

pub no_text : (text : List ℕ) → (length text == 0) ≡ true → text ≡ []
no_text [] none = refl
no_text (byte ∷ bytes) none =
    elim (eqb_tells (length (byte ∷ bytes)) 0) [
      | inl eq ↦ absurd (let len = eq.1 in omega (arith, len))
      | inr ne ↦
          let both : true ≡ false = sym none ∙ ne.0 in absurd (let f : ⊥ = cc both in f)
    ]

pub none_unwritten : (empty : Bool) (text unwritten : List ℕ) → empty ≡ (length text == 0)
    → text ≡ unwritten → OnFalse (not empty) (unwritten ≡ [])
none_unwritten true text unwritten is same = sym same ∙ no_text text (sym is)
none_unwritten false text unwritten is same = tt

pub none_spent : (empty : Bool) (list spent : List ℕ) → empty ≡ (length list == 0) → list ≡ spent
    → OnTrue empty (spent ≡ [])
none_spent true list spent is same = sym same ∙ no_text list (sym is)
none_spent false list spent is same = tt

late_pipe : (pipe : Option PipeState) (now : ℕ)
    → is_due_by (option_and_then late_at pipe) now ≡ true → IsSome pipe
late_pipe None now late = absurd (let both : false ≡ true = late in let f : ⊥ = cc both in f)
late_pipe (Some it) now late = refl

-- a late response is awaited on a connection
pub late_line : (line : Option LineState) (now : ℕ) → is_first_late line now ≡ true
    → IfSome line (λ it. IsSome it.pipe)
late_line None now late = tt
late_line (Some line) now late = late_pipe line.pipe now late

-- an open line has nobody who leaves, and its server is one
pub open_leaves : (line : Option LineState) → IsOpen line → HasNoneLeaving line
open_leaves None is = tt
open_leaves (Some line) is = is

open_some : (lines : List LineState) (server : ℕ) (line : Option LineState)
    → slice_get lines server ≡ line → IsOpen line → server < length lines
open_some lines server None at is = absurd is
open_some lines server (Some line) at is = slice_get_within lines server line at

pub open_within : (lines : List LineState) (server : ℕ) → IsOpen (slice_get lines server)
    → server < length lines
open_within lines server is = open_some lines server (slice_get lines server) refl is

-- a socket is held as before where nothing changed but on an open line
pub held_open : (port : Option ReadyState) (line : Option LineState) → IsOpen line
    → IsHeld port line
held_open None line is = tt
held_open (Some port) line is = is

-- a connection that is being made, and its line
pub connecting_line : (line : Option LineState) → link_at line ≡ Some Connecting
    → IfSome line (λ it. link_on it.pipe ≡ Some Connecting)
connecting_line None is = tt
connecting_line (Some line) is = is

begun_pipe : (pipe : Option PipeState) → link_on pipe ≡ Some Connecting → IsSome pipe
begun_pipe None is = absurd (let none : ⊥ = cc is in none)
begun_pipe (Some it) is = refl

pub begun_line : (line : Option LineState) → link_at line ≡ Some Connecting
    → IfSome line (λ it. IsSome it.pipe)
begun_line None is = tt
begun_line (Some line) is = begun_pipe line.pipe is

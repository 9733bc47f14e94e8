-- Who waits on a line after each call on it.
use Rattle.std.proofs.Common.{◌≡◌, ◌≢◌, ℕ, ◌<◌, List, [], ◌∷◌, ◌++◌, Bool, true, false, refl, sym, ap, subst, ◌∙◌, length, Option, Some, None, append_assoc, append-nil}
use Rattle.std.specs.Prelude.{unwrap_or, slice_set}
use Rattle.tko_pipe.specs.declared.link.Link.{Link}
use Rattle.tko_pipe.specs.declared.link.Link.TheVariants.{Connecting, Connected, Shut}
use Rattle.tko_pipe.specs.declared.waiter.Waiter.{Waiter}
use Rattle.tko_pipe.specs.Pipes.{PipeState, Pushing, opened_pipe}
use Rattle.tko_roster.proofs.SlotLemmas.{get_set_same, get_set_other}
use Rattle.std.specs.Prelude.{Result, Ok, Err}
use Rattle.tko_text.specs.declared.request.Request.{Request}
use Rattle.tko_text.specs.declared.response.Response.{Response}
use Rattle.tko_pipe.specs.declared.fates.Fate.{Fate}
use Rattle.tko_pipe.specs.declared.fates.ShutCause.{ShutCause}
use Rattle.tko_pipe.specs.declared.fates.ShutCause.TheVariants.{EndOfInput, Fault, Silent, Late, Unreadable, Unasked, Memory, Lacking}
use Rattle.tko_pipe.specs.declared.waiter.Asker.{Asker}
use Rattle.tko_pipe.specs.Ends.{ExpireEnds, GotEnds, IsChecked, TakeEnds}
use Rattle.tko_pipe.specs.Pipes.{IsShut, Shutting, is_asked}
use Rattle.tko_roster.specs.Rosters.{RosterState}
use Rattle.tko_mux.specs.declared.client.Client.{Client}
use Rattle.tko_mux.specs.Lines.{IsLineLeft, IsLinePushed, IsOnLive, IsOnPipe, LineState, line_by, line_of, waiters, pipe_waiters}
use Rattle.tko_mux.specs.Muxes.{ReadsFirst, WaitsFor}
use Rattle.tko_mux.specs.Linking.{waiters_at, waiters_on}

-- those that wait on a connection wait on its line
line_waits : (link : Link) (pipe : PipeState) → waiters (line_by link pipe) ≡ pipe.waiters
line_waits Connecting pipe = refl
line_waits Connected pipe = refl
line_waits (Shut left) pipe = append-nil pipe.waiters

pub line_of_waits : (pipe : PipeState) → waiters (line_of pipe) ≡ pipe.waiters
line_of_waits pipe = line_waits pipe.link pipe

begun_waits : (limit : ℕ) (pipe : Option PipeState)
    → (unwrap_or pipe (opened_pipe limit)).waiters ≡ pipe_waiters pipe
begun_waits limit None = refl
begun_waits limit (Some it) = refl

-- one more waits at the end
pub pushed_waits : (limit : ℕ) (old new : LineState) (it : Pushing)
    → IsLinePushed limit old it new → waiters new ≡ waiters old ++ it.waiter ∷ []
pushed_waits limit old new it step =
    let last : List Waiter = it.waiter ∷ [] in
    let now : step.pipe.waiters ≡ pipe_waiters old.pipe ++ last =
    ap (λ (p : PipeState). p.waiters) step.pushed.state
    ∙ ap (λ (w : List Waiter). w ++ last) (begun_waits limit old.pipe) in
    ap waiters step.state ∙ ap (λ (w : List Waiter). pipe_waiters old.ended ++ w) now
    ∙ sym (append_assoc (pipe_waiters old.ended) (pipe_waiters old.pipe) last)

-- who waits for each server, once one line was written
pub set_waits : (lines : List LineState) (server : ℕ) (now : LineState) → server < length lines
    → waiters_at (slice_set lines server now) server ≡ waiters now
set_waits lines server now below = ap waiters_on (get_set_same lines server now below)

pub others_wait : (lines : List LineState) (server : ℕ) (now : LineState) (other : ℕ)
    → other ≢ server → waiters_at (slice_set lines server now) other ≡ waiters_at lines other
others_wait lines server now other apart = ap waiters_on
    (get_set_other lines server other now apart)

-- one left at the front
pub record OneLeaves (by : Asker) (old new : List Waiter) : Type 0 where
  pub waiter : Waiter
  pub is_by : by ≡ waiter.by
  pub front : old ≡ waiter ∷ new

-- who waits on a connection after a response was looked for: one less, if one came
abbrev pub TakeLeaves : Result (Option (Asker × Response)) ShutCause → List Waiter → List Waiter
    → Type 0
TakeLeaves (Ok None) old new = new ≡ old
TakeLeaves (Err cause) old new = new ≡ old
TakeLeaves (Ok (Some taken)) old new = OneLeaves taken.0 old new

checked_waits : (test : Bool) (mid new : PipeState) → IsChecked test mid new
    → new.waiters ≡ mid.waiters
checked_waits true mid new same = ap (λ (p : PipeState). p.waiters) same
checked_waits false mid new shut = ap (λ (p : PipeState). p.waiters) shut.state

shut_waits : (old new : PipeState) (it : Shutting) → IsShut old it new → new.waiters ≡ old.waiters
shut_waits old new it shut = ap (λ (p : PipeState). p.waiters) shut.state

take_leaves : (old new : PipeState) (request : Request)
    (taken : Result (Option (Asker × Response)) ShutCause) → TakeEnds old request taken new
    → TakeLeaves taken old.waiters new.waiters
take_leaves old new request (Ok None) ends = ap (λ (p : PipeState). p.waiters) ends.0
take_leaves old new request (Ok (Some taken)) ends = record {
  waiter = ends.waiter;
  is_by = ends.is_by;
  front = ends.taken.first
      ∙ ap (λ (w : List Waiter). ends.waiter ∷ w) (sym (checked_waits
      (is_asked ends.mid.unread ends.mid.waiters ends.mid.unwritten) ends.mid new ends.checked));
}
take_leaves old new request (Err Unreadable) ends =
    ap (λ (p : PipeState). p.waiters) ends.1.state
take_leaves old new request (Err Memory) ends = ap (λ (p : PipeState). p.waiters) ends.state
take_leaves old new request (Err EndOfInput) ends = absurd ends
take_leaves old new request (Err Fault) ends = absurd ends
take_leaves old new request (Err (Silent now)) ends = absurd ends
take_leaves old new request (Err (Late now)) ends = absurd ends
take_leaves old new request (Err Unasked) ends = absurd ends
take_leaves old new request (Err Lacking) ends = absurd ends

-- who waits on a line where nobody leaves is who waits on its connection
none_leave : (line : LineState) (pipe : PipeState) → line.ended ≡ None → line.pipe ≡ Some pipe
    → waiters line ≡ pipe.waiters
none_leave line pipe none is =
    ap (λ (p : Option PipeState). pipe_waiters p ++ pipe_waiters line.pipe) none
    ∙ ap pipe_waiters is

-- who waits on a line after a response was looked for there
pub read_leaves : {S P : Type 0} (waits_for : WaitsFor S) (roster : RosterState (Client S) P)
    (server : ℕ) (first : Option Waiter) (old new : LineState)
    (taken : Result (Option (Asker × Response)) ShutCause) → old.ended ≡ None
    → ReadsFirst waits_for roster server first old taken new
    → TakeLeaves taken (waiters old) (waiters new)
read_leaves waits_for roster server None old new taken none reads =
    subst (λ (it : Result (Option (Asker × Response)) ShutCause).
    TakeLeaves it (waiters old) (waiters new)) (sym reads.0) (ap waiters reads.1)
read_leaves waits_for roster server (Some first) old new taken none reads =
    let on = reads.on in
    let before : on.was.waiters ≡ waiters old = sym (none_leave old on.was none on.from) in
    let after : on.now.waiters ≡ waiters new =
    sym (ap waiters on.to ∙ line_of_waits on.now) in
    subst (λ (w : List Waiter). TakeLeaves taken w (waiters new)) before
    (subst (λ (w : List Waiter). TakeLeaves taken on.was.waiters w) after
    (take_leaves on.was on.now reads.lent taken on.ends))

-- one less waits on a line once one left
pub left_leaves : (old new : LineState) (by : Asker) (came : Fate) → IsLineLeft old by came new
    → OneLeaves by (waiters old) (waiters new)
left_leaves old new by came step =
    let others : List Waiter = pipe_waiters old.pipe in
    record {
      waiter = step.left.it.waiter;
      is_by = step.left.is_by;
      front = ap (λ (p : Option PipeState). pipe_waiters p ++ others) step.from
          ∙ ap (λ (w : List Waiter). w ++ others) step.left.left.first
          ∙ ap (λ (w : List Waiter). step.left.it.waiter ∷ w) (sym (ap waiters step.state));
    }

-- a call that leaves all waiting
pub live_waits : (did : PipeState → PipeState → Type 0) (old new : LineState)
    → ((was now : PipeState) → did was now → now.waiters ≡ was.waiters)
    → IsOnLive did old new → waiters new ≡ waiters old
live_waits did old new keeps step =
    ap waiters step.to
    ∙ ap (λ (w : List Waiter). pipe_waiters old.ended ++ w)
    (keeps step.was step.now step.ends ∙ sym (ap pipe_waiters step.from))

pub pipe_waits : (did : PipeState → PipeState → Type 0) (old new : LineState)
    → old.ended ≡ None → ((was now : PipeState) → did was now → now.waiters ≡ was.waiters)
    → IsOnPipe did old new → waiters new ≡ waiters old
pipe_waits did old new none keeps step =
    ap waiters step.to ∙ line_of_waits step.now ∙ keeps step.was step.now step.ends
    ∙ sym (none_leave old step.was none step.from)

pub got_waits : (bytes : List ℕ) (now : ℕ) (result : Result Unit ShutCause) (was it : PipeState)
    → GotEnds was bytes now result it → it.waiters ≡ was.waiters
got_waits bytes now (Ok done) was it ends = ap (λ (p : PipeState). p.waiters) ends.state
got_waits bytes now (Err Unasked) was it ends = ap (λ (p : PipeState). p.waiters) ends.1.state
got_waits bytes now (Err Memory) was it ends = ap (λ (p : PipeState). p.waiters) ends.state
got_waits bytes now (Err EndOfInput) was it ends = absurd ends
got_waits bytes now (Err Fault) was it ends = absurd ends
got_waits bytes now (Err (Silent at)) was it ends = absurd ends
got_waits bytes now (Err (Late at)) was it ends = absurd ends
got_waits bytes now (Err Unreadable) was it ends = absurd ends
got_waits bytes now (Err Lacking) was it ends = absurd ends

pub expire_waits : (now : ℕ) (result : Option ShutCause) (was it : PipeState)
    → ExpireEnds was now result it → it.waiters ≡ was.waiters
expire_waits now None was it ends = ap (λ (p : PipeState). p.waiters) ends.1
expire_waits now (Some cause) was it ends = ap (λ (p : PipeState). p.waiters) ends.1.state

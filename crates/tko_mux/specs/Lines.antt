-- The connections to one server, and who waits on them.
use Rattle.std.specs.Prelude.{◌≡◌, ℕ, Bool, false, List, [], ◌++◌, Option, Some, None, unwrap_or, slice_get}
use Rattle.std.specs.Option.{option_and_then, option_map}
use Rattle.tko_text.specs.declared.request.Request.{Request}
use Rattle.tko_pipe.specs.declared.fates.Fate.{Fate}
use Rattle.tko_pipe.specs.declared.link.Link.{Link}
use Rattle.tko_pipe.specs.declared.link.Link.TheVariants.{Connecting, Connected, Shut}
use Rattle.tko_pipe.specs.declared.waiter.Asker.{Asker}
use Rattle.tko_pipe.specs.declared.waiter.Waiter.{Waiter}
use Rattle.tko_pipe.specs.Ends.{IsLeaving}
use Rattle.tko_pipe.specs.Waiters.{is_first_gone}
use Rattle.tko_pipe.specs.Pipes.{IsLive, IsPushed, PipeState, Pushing, opened_pipe}

-- the connection that requests go out on, and one that was shut, until all that waited on it have
-- left
pub record LineState : Type 0 where
  pub pipe : Option PipeState
  pub ended : Option PipeState

-- there is no connection
abbrev pub idle_line : LineState
idle_line = record { pipe = None; ended = None }

abbrev pub WasShut : Link → Type 0
WasShut Connecting = ⊥
WasShut Connected = ⊥
WasShut (Shut left) = Unit {0}

abbrev pub IsLiveOn : Option PipeState → Type 0
IsLiveOn None = Unit {0}
IsLiveOn (Some pipe) = IsLive pipe.link

abbrev pub WasShutOn : Option PipeState → Type 0
WasShutOn None = Unit {0}
WasShutOn (Some pipe) = WasShut pipe.link

-- requests go out on a connection that was not shut, and none on one that was
pub record AreApart (pipe ended : Option PipeState) : Type 0 where
  pub live : IsLiveOn pipe
  pub shut : WasShutOn ended

abbrev pub pipe_waiters : Option PipeState → List Waiter
pipe_waiters None = []
pipe_waiters (Some pipe) = pipe.waiters

-- all that wait for this server, in order
abbrev pub waiters : LineState → List Waiter
waiters line = pipe_waiters line.ended ++ pipe_waiters line.pipe

-- who waits for the next response
abbrev pub first_on : Option PipeState → Option Waiter
first_on pipe = option_and_then (λ it. slice_get it.waiters 0) pipe

abbrev pub link_on : Option PipeState → Option Link
link_on pipe = option_map (λ it. it.link) pipe

abbrev pub unwritten_on : Option PipeState → List ℕ
unwritten_on None = []
unwritten_on (Some pipe) = pipe.unwritten

-- whether the one that waits for the next response gave up
abbrev pub is_gone_on : Option PipeState → Bool
is_gone_on None = false
is_gone_on (Some pipe) = is_first_gone pipe.waiters

-- what the responses to those that gave up are read by
abbrev pub forms_on : Option PipeState → List Request
forms_on None = []
forms_on (Some pipe) = pipe.forms

abbrev pub line_by : Link → PipeState → LineState
line_by Connecting pipe = record { pipe = Some pipe; ended = None }
line_by Connected pipe = record { pipe = Some pipe; ended = None }
line_by (Shut left) pipe = record { pipe = None; ended = Some pipe }

-- a connection on its line: apart once it was shut
abbrev pub line_of : PipeState → LineState
line_of pipe = line_by pipe.link pipe

-- a call on the connection that requests go out on, which did this to it and may have shut it
pub record IsOnPipe (did : PipeState → PipeState → Type 0) (old new : LineState) : Type 0 where
  pub was : PipeState
  pub now : PipeState
  pub from : old.pipe ≡ Some was
  pub ends : did was now
  pub to : new ≡ line_of now

-- a call on it that does not shut it
pub record IsOnLive (did : PipeState → PipeState → Type 0) (old new : LineState) : Type 0 where
  pub was : PipeState
  pub now : PipeState
  pub from : old.pipe ≡ Some was
  pub ends : did was now
  pub to : new ≡ record old { pipe = Some now }

-- somebody waits behind the others, on the connection that there is or on one that begins
pub record IsLinePushed (limit : ℕ) (old : LineState) (it : Pushing) (new : LineState) : Type 0
  where
    pub pipe : PipeState
    pub pushed : IsPushed (unwrap_or old.pipe (opened_pipe limit)) it pipe
    pub state : new ≡ record old { pipe = Some pipe }

-- the next of those that waited on the connection that was shut left with this fate
pub record IsLineLeft (old : LineState) (by : Asker) (came : Fate) (new : LineState) : Type 0 where
  pub was : PipeState
  pub now : PipeState
  pub from : old.ended ≡ Some was
  pub left : IsLeaving was by came now
  pub state : new ≡ record old { ended = Some now }

-- the next that leaves, or none: then nobody waits on a connection that was shut
abbrev pub LineLeaves : LineState → Option (Asker × Fate) → LineState → Type 0
LineLeaves old None new = (pipe_waiters old.ended ≡ []) × (new ≡ record old { ended = None })
LineLeaves old (Some next) new = IsLineLeft old next.0 next.1 new

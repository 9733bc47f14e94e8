-- One pipelined connection: requests are written one after another, and each response belongs to
-- the first request that waits.
use Rattle.std.specs.Prelude.{◌≡◌, ◌≤◌, nat_le, ℕ, ◌-◌, Bool, true, false, List, [], ◌∷◌, ◌++◌, length, Option, Some, None}
use Rattle.tko_text.specs.declared.request.Request.{Request}
use Rattle.tko_text.specs.declared.response.Response.{Response}
use Rattle.tko_text.specs.Requests.{request_text}
use Rattle.tko_text.specs.ResponseReads.{IsResponse}
use Rattle.tko_pipe.specs.declared.waiter.Asker.{Asker}
use Rattle.tko_pipe.specs.declared.waiter.Waiter.{Waiter}
use Rattle.tko_pipe.specs.declared.fates.Fates.{Fates}
use Rattle.tko_pipe.specs.declared.fates.ShutCause.{ShutCause}
use Rattle.tko_pipe.specs.declared.fates.ShutCause.TheVariants.{Silent, Late}
use Rattle.tko_pipe.specs.declared.link.Link.{Link}
use Rattle.tko_pipe.specs.declared.link.Link.TheVariants.{Connecting, Connected, Shut}
use Rattle.tko_pipe.specs.declared.window.Window.{Window}
use Rattle.tko_pipe.specs.Fates.{Leaving, fate_for, fates_of, fates_left}
use Rattle.tko_pipe.specs.Waiters.{IsReadBy, forms_after, has_gone, is_first_gone, lengths_of}
use Rattle.tko_pipe.specs.Windows.{late_after, read_window, unbegun_window}

-- the time limit, how far the connection is, who waits, what is not written of their requests'
-- texts, the bytes that no response was taken from, when the last bytes came, since when how many
-- came, and what the responses to those that gave up are read by, in the order of the queue
pub record PipeState : Type 0 where
  pub limit : ℕ
  pub link : Link
  pub waiters : List Waiter
  pub unwritten : List ℕ
  pub unread : List ℕ
  pub heard : Option ℕ
  pub window : Window
  pub forms : List Request

-- a connection that is being made
abbrev pub opened_pipe : ℕ → PipeState
opened_pipe limit = record {
  limit = limit;
  link = Connecting;
  waiters = [];
  unwritten = [];
  unread = [];
  heard = None;
  window = unbegun_window;
  forms = [];
}

-- the connection was not shut
abbrev pub IsLive : Link → Type 0
IsLive Connecting = Unit {0}
IsLive Connected = Unit {0}
IsLive (Shut left) = ⊥

-- only on a connection that is there bytes are unread
abbrev pub MayBeUnread : Link → List ℕ → Type 0
MayBeUnread Connecting unread = unread ≡ []
MayBeUnread Connected unread = Unit {0}
MayBeUnread (Shut left) unread = unread ≡ []

-- the first request was written wholly: what is unwritten are the texts of those that follow it
abbrev pub is_first_written : List Waiter → List ℕ → Bool
is_first_written [] unwritten = false
is_first_written (first ∷ others) unwritten = nat_le (length unwritten) (lengths_of others)

-- whether somebody can have asked for these bytes
abbrev pub is_asked : List ℕ → List Waiter → List ℕ → Bool
is_asked [] waiters unwritten = true
is_asked (byte ∷ bytes) waiters unwritten = is_first_written waiters unwritten

-- when the first of these responses is late, where the bytes of the connection came so
abbrev pub first_late : List Waiter → Window → ℕ → Option ℕ
first_late [] window limit = None
first_late (first ∷ others) window limit = Some (late_after window limit first.due)

-- when the first response is late, if one is awaited and no byte comes
abbrev pub late_at : PipeState → Option ℕ
late_at state = first_late state.waiters state.window state.limit

-- that moment is there
abbrev pub is_due_by : Option ℕ → ℕ → Bool
is_due_by None now = false
is_due_by (Some moment) now = nat_le moment now

-- the first response is late at this moment
abbrev pub is_late : PipeState → ℕ → Bool
is_late state now = is_due_by (late_at state) now

-- no byte came for the whole time limit, up to this moment
abbrev pub is_silent : Option ℕ → ℕ → ℕ → Bool
is_silent None limit now = true
is_silent (Some heard) limit now = nat_le limit (now - heard)

-- a connection can be shut for this cause. Of most causes only the caller knows whether they are so
abbrev pub IsCause : PipeState → ShutCause → Type 0
IsCause state (Silent now) =
    (is_late state now ≡ true) × (is_silent state.heard state.limit now ≡ true)
IsCause state (Late now) =
    (is_late state now ≡ true) × (is_silent state.heard state.limit now ≡ false)
IsCause state _ = Unit {0}

-- who waits, and for what
pub record Pushing : Type 0 where
  pub waiter : Waiter
  pub request : Request

-- who waited, the request, and the response with its bytes
pub record Taking : Type 0 where
  pub waiter : Waiter
  pub request : Request
  pub response : Response
  pub bytes : List ℕ

-- why a connection was shut, and the bytes and the forms that were dropped with it
pub record Shutting : Type 0 where
  pub cause : ShutCause
  pub unwritten : List ℕ
  pub unread : List ℕ
  pub forms : List Request

-- an entry for this request
abbrev pub pushing : Asker → ℕ → Request → Pushing
pushing by due request = record {
  waiter = record { by = by; due = due; len = length (request_text request) };
  request = request;
}

-- the connection was made
pub record IsConnected (old new : PipeState) : Type 0 where
  pub was_connecting : old.link ≡ Connecting
  pub state : new ≡ record old { link = Connected }

-- somebody waits behind the others, and the text of the request is to be written behind theirs
pub record IsPushed (old : PipeState) (it : Pushing) (new : PipeState) : Type 0 where
  pub live : IsLive old.link
  pub here : has_gone it.waiter.by ≡ false
  pub len : it.waiter.len ≡ length (request_text it.request)
  pub state : new ≡ record old {
    waiters = old.waiters ++ it.waiter ∷ [];
    unwritten = old.unwritten ++ request_text it.request;
  }

-- these bytes of what was not written were written
pub record IsWritten (old : PipeState) (bytes : List ℕ) (new : PipeState) : Type 0 where
  pub connected : old.link ≡ Connected
  pub front : old.unwritten ≡ bytes ++ new.unwritten
  pub state : new ≡ record old { unwritten = new.unwritten }

-- these bytes came at this moment
pub record IsGot (old : PipeState) (bytes : List ℕ) (now : ℕ) (new : PipeState) : Type 0 where
  pub connected : old.link ≡ Connected
  pub asked : is_first_written old.waiters old.unwritten ≡ true
  pub state : new ≡ record old {
    unread = old.unread ++ bytes;
    heard = Some now;
    window = read_window now (length bytes) old.window;
  }

-- the first that waited had its request written wholly, and the response to this request was at the
-- front; where it gave up, this is the first of the forms
pub record IsTaken (old : PipeState) (it : Taking) (new : PipeState) : Type 0 where
  pub connected : old.link ≡ Connected
  pub first : old.waiters ≡ it.waiter ∷ new.waiters
  pub written : length old.unwritten ≤ lengths_of new.waiters
  pub front : old.unread ≡ it.bytes ++ new.unread
  pub response : IsResponse it.request it.bytes it.response
  pub form : IsReadBy it.waiter.by it.request old.forms
  pub state : new ≡ record old {
    waiters = new.waiters;
    unread = new.unread;
    forms = forms_after it.waiter.by old.forms;
  }

-- the connection as this cause leaves it
abbrev pub shut_by : PipeState → ShutCause → PipeState
shut_by old cause = record old {
  link = Shut (fates_of old.link (is_first_gone old.waiters) cause);
  unwritten = [];
  unread = [];
  forms = [];
}

-- what is dropped with a connection that is shut for this cause
abbrev pub shutting : PipeState → ShutCause → Shutting
shutting old cause = record {
  cause = cause;
  unwritten = old.unwritten;
  unread = old.unread;
  forms = old.forms;
}

-- the connection was shut
pub record IsShut (old : PipeState) (it : Shutting) (new : PipeState) : Type 0 where
  pub live : IsLive old.link
  pub cause : IsCause old it.cause
  pub unwritten : it.unwritten ≡ old.unwritten
  pub unread : it.unread ≡ old.unread
  pub forms : it.forms ≡ old.forms
  pub state : new ≡ shut_by old it.cause

-- of those whose connection was shut the first left
pub record IsLeft (old : PipeState) (it : Leaving) (new : PipeState) : Type 0 where
  pub left : Fates
  pub shut : old.link ≡ Shut left
  pub first : old.waiters ≡ it.waiter ∷ new.waiters
  pub came : it.came ≡ fate_for it.waiter.by left
  pub state : new ≡ record old {
    waiters = new.waiters;
    link = Shut (fates_left it.waiter.by left);
  }

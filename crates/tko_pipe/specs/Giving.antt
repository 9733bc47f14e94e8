-- Those that may give up, and how they do.
use Rattle.std.specs.Prelude.{◌≡◌, ◌≢◌, ◌≤◌, ◌<◌, ◌+◌, ℕ, false, List, [], ◌∷◌, ◌++◌, length, drop, take, slice_get, All, Some}
use Rattle.tko_text.specs.declared.request.Request.{Request}
use Rattle.tko_text.specs.Responses.{request_kind}
use Rattle.tko_pipe.specs.declared.waiter.Asker.{Asker}
use Rattle.tko_pipe.specs.declared.waiter.Asker.TheVariants.{Client}
use Rattle.tko_pipe.specs.declared.waiter.Waiter.{Waiter}
use Rattle.tko_pipe.specs.Pipes.{IsLive, PipeState, is_silent}
use Rattle.tko_pipe.specs.Waiters.{gone, has_gone}

-- none of these gave up
abbrev pub AreHere : List Waiter → Type 0
AreHere waiters = All (λ it. has_gone it.by ≡ false) waiters

-- none before this place asked as this one
abbrev pub AskedOnce : List Waiter → ℕ → Asker → Type 0
AskedOnce waiters place by = All (λ it. it.by ≢ by) (take place waiters)

-- if there is a second one, it is due at this moment
abbrev pub IsSecondDue : List Waiter → ℕ → Type 0
IsSecondDue waiters now = (next : Waiter) → slice_get waiters 1 ≡ Some next → next.due ≤ now

-- the one at this place is a client, is due at this moment, and asked for nothing else before
pub record IsDueAlone (waiters : List Waiter) (now place : ℕ) : Type 0 where
  pub waiter : Waiter
  pub number : ℕ
  pub at : slice_get waiters place ≡ Some waiter
  pub is_client : waiter.by ≡ Client number
  pub due : waiter.due ≤ now
  pub alone : AskedOnce waiters place waiter.by

-- the first place behind the front from which on none gave up
pub record IsBehindGone (waiters : List Waiter) (place : ℕ) : Type 0 where
  pub behind : 0 < place
  pub here : AreHere (drop place waiters)
  pub first : (other : ℕ) → 0 < other → AreHere (drop other waiters) → place ≤ other

-- The one at this place may give up at this moment. Deadlines come in the order of the queue: where
-- the second is not due, nobody may.
pub record MayGiveUp (state : PipeState) (now place : ℕ) : Type 0 where
  pub waiter : Waiter
  pub number : ℕ
  pub at : slice_get state.waiters place ≡ Some waiter
  pub is_client : waiter.by ≡ Client number
  pub behind : 0 < place
  pub due : waiter.due ≤ now
  pub next_due : IsSecondDue state.waiters now
  -- a response is being received: some of its bytes are there, and some came within the time limit
  pub received : state.unread ≢ []
  pub heard : is_silent state.heard state.limit now ≡ false
  -- it asked for nothing else before
  pub alone : AskedOnce state.waiters place waiter.by
  -- those that give up do so in the order of the queue
  pub last : AreHere (drop (place + 1) state.waiters)

-- the first that may
pub record IsNextOverdue (state : PipeState) (now place : ℕ) : Type 0 where
  pub may : MayGiveUp state now place
  pub first : (earlier : ℕ) → earlier < place → MayGiveUp state now earlier → ⊥

-- those before it, who gave up, its number, those after it, what its response is read by, and when
pub record GivingUp : Type 0 where
  pub before : List Waiter
  pub waiter : Waiter
  pub number : ℕ
  pub after : List Waiter
  pub form : Request
  pub now : ℕ

-- it gave up, and its place stays
pub record IsPlaceGivenUp (old : PipeState) (it : GivingUp) (new : PipeState) : Type 0 where
  pub live : IsLive old.link
  pub may : MayGiveUp old it.now (length it.before)
  pub is_client : it.waiter.by ≡ Client it.number
  pub waiters : old.waiters ≡ it.before ++ it.waiter ∷ it.after
  pub state : new ≡ record old {
    waiters = it.before ++ gone it.number it.waiter ∷ it.after;
    forms = old.forms ++ it.form ∷ [];
  }

-- the one at this place gave up at this moment, and its response is read as that of this request
pub record HasGivenUp (old : PipeState) (now place : ℕ) (request : Request) (new : PipeState)
    : Type 0 where
  pub it : GivingUp
  pub now_is : it.now ≡ now
  pub place_is : length it.before ≡ place
  pub form : request_kind it.form ≡ request_kind request
  pub given : IsPlaceGivenUp old it new

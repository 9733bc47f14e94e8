-- The life of a connection: all that was done with it, and what this means.
use Rattle.std.specs.Prelude.{◌≡◌, ◌≢◌, ◌+◌, ◌<◌, ◌≤◌, ◌⊎◌, ℕ, Bool, true, false, List, [], ◌∷◌, ◌++◌, length, map, flat_map, All, Option, Some, None}
use Rattle.tko_model.specs.Records.{Gains}
use Rattle.tko_text.specs.declared.request.Request.{Request}
use Rattle.tko_text.specs.Requests.{request_text}
use Rattle.tko_text.specs.ResponseReads.{IsResponse}
use Rattle.tko_pipe.specs.declared.waiter.Waiter.{Waiter}
use Rattle.tko_pipe.specs.declared.link.Link.{Link}
use Rattle.tko_pipe.specs.declared.link.Link.TheVariants.{Connecting, Connected, Shut}
use Rattle.tko_pipe.specs.declared.fates.ShutCause.{ShutCause}
use Rattle.tko_pipe.specs.declared.fates.ShutCause.TheVariants.{Silent, Late}
use Rattle.tko_pipe.specs.Windows.{limit_after, progress}
use Rattle.tko_pipe.specs.Fates.{Leaving, fates_of, leaving}
use Rattle.tko_pipe.specs.Pipes.{IsCause, IsConnected, IsGot, IsLeft, IsLive, IsPushed, IsShut, IsTaken, IsWritten, PipeState, Pushing, Shutting, Taking, opened_pipe}
use Rattle.tko_pipe.specs.Giving.{GivingUp, IsPlaceGivenUp}
use Rattle.tko_pipe.specs.Waiters.{all_as_asked, gone, gone_of, has_gone, is_first_gone, lengths_of}

-- what was done with a connection
pub data PipeItem : Type 0 where
  WasConnected : PipeItem
  Pushed : (it : Pushing) → PipeItem
  Wrote : (bytes : List ℕ) → PipeItem
  Got : (bytes : List ℕ) (now : ℕ) → PipeItem
  Took : (it : Taking) → PipeItem
  GaveUp : (it : GivingUp) → PipeItem
  WasShut : (it : Shutting) → PipeItem
  Left : (it : Leaving) → PipeItem

abbrev pub IsPipeStep : PipeState → PipeItem → PipeState → Type 0
IsPipeStep old WasConnected new = IsConnected old new
IsPipeStep old (Pushed it) new = IsPushed old it new
IsPipeStep old (Wrote bytes) new = IsWritten old bytes new
IsPipeStep old (Got bytes now) new = IsGot old bytes now new
IsPipeStep old (Took it) new = IsTaken old it new
IsPipeStep old (GaveUp it) new = IsPlaceGivenUp old it new
IsPipeStep old (WasShut it) new = IsShut old it new
IsPipeStep old (Left it) new = IsLeft old it new

abbrev pub pushed_in : PipeItem → List Pushing
pushed_in (Pushed it) = it ∷ []
pushed_in _ = []

abbrev pub wrote_in : PipeItem → List ℕ
wrote_in (Wrote bytes) = bytes
wrote_in _ = []

abbrev pub got_in : PipeItem → List ℕ
got_in (Got bytes now) = bytes
got_in _ = []

abbrev pub took_in : PipeItem → List Taking
took_in (Took it) = it ∷ []
took_in _ = []

abbrev pub giving_in : PipeItem → List GivingUp
giving_in (GaveUp it) = it ∷ []
giving_in _ = []

abbrev pub shut_in : PipeItem → List Shutting
shut_in (WasShut it) = it ∷ []
shut_in _ = []

abbrev pub left_in : PipeItem → List Leaving
left_in (Left it) = it ∷ []
left_in _ = []

-- when bytes came last, if they came before the items at this moment
abbrev pub heard_after : Option ℕ → List PipeItem → Option ℕ
heard_after heard [] = heard
heard_after heard (Got bytes now ∷ items) = heard_after (Some now) items
heard_after heard (_ ∷ items) = heard_after heard items

-- who asked, who was answered, and who left without an answer, in order
abbrev pub askers_in : List PipeItem → List Waiter
askers_in items = map (λ it. it.waiter) (flat_map pushed_in items)

abbrev pub answered_in : List PipeItem → List Waiter
answered_in items = map (λ it. it.waiter) (flat_map took_in items)

abbrev pub unanswered_in : List PipeItem → List Waiter
unanswered_in items = map (λ it. it.waiter) (flat_map left_in items)

-- all places, in order: those that were answered or dropped, that left, and that wait
abbrev pub places_asked : List PipeItem → List Waiter → List Waiter
places_asked items waiters = answered_in items ++ unanswered_in items ++ waiters

-- who gave up, in order
abbrev pub quitters_in : List PipeItem → List Waiter
quitters_in items = map (λ it. gone it.number it.waiter) (flat_map giving_in items)

-- the forms that were kept, in order, those that responses were read by, and those that were
-- dropped where the connection was shut
abbrev pub forms_kept : List PipeItem → List Request
forms_kept items = map (λ it. it.form) (flat_map giving_in items)

abbrev pub form_if : Bool → Request → List Request
form_if true form = form ∷ []
form_if false form = []

abbrev pub form_kept_in : Taking → List Request
form_kept_in it = form_if (has_gone it.waiter.by) it.request

abbrev pub forms_used : List PipeItem → List Request
forms_used items = flat_map form_kept_in (flat_map took_in items)

abbrev pub forms_dropped : List PipeItem → List Request
forms_dropped items = flat_map (λ it. it.forms) (flat_map shut_in items)

-- the texts of the requests, in order
abbrev pub texts_in : List PipeItem → List ℕ
texts_in items = flat_map (λ it. request_text it.request) (flat_map pushed_in items)

abbrev pub written_in : List PipeItem → List ℕ
written_in items = flat_map wrote_in items

abbrev pub bytes_read_in : List PipeItem → List ℕ
bytes_read_in items = flat_map got_in items

-- the bytes of the responses, in order
abbrev pub responses_in : List PipeItem → List ℕ
responses_in items = flat_map (λ it. it.bytes) (flat_map took_in items)

-- the bytes that were dropped where the connection was shut
abbrev pub unwritten_dropped : List PipeItem → List ℕ
unwritten_dropped items = flat_map (λ it. it.unwritten) (flat_map shut_in items)

abbrev pub unread_dropped : List PipeItem → List ℕ
unread_dropped items = flat_map (λ it. it.unread) (flat_map shut_in items)

-- the response is that of the request
abbrev pub IsTakenResponse : Taking → Type 0
IsTakenResponse it = IsResponse it.request it.bytes it.response

-- it was behind the front, its time limit had passed, and it had asked for nothing else before
pub record IsQuitting (it : GivingUp) : Type 0 where
  pub behind : 0 < length it.before
  pub due : it.waiter.due ≤ it.now
  pub alone : All (λ one. one.by ≢ it.waiter.by) it.before

-- those that a connection that was shut still leaves
abbrev pub leaving_in : Link → List Waiter → List Leaving
leaving_in Connecting waiters = []
leaving_in Connected waiters = []
leaving_in (Shut left) waiters = leaving left waiters

-- what was done, as to this moment: bytes that were read came within the time limit before it
abbrev pub IsRecent : ℕ → ℕ → PipeItem → Type 0
IsRecent limit now (Got bytes moment) = now < limit_after limit moment
IsRecent limit now _ = Unit {0}

-- less than 64 KiB came by all reads since one within the time limit before this moment
abbrev pub HasNoProgress : ℕ → ℕ → List PipeItem → Type 0
HasNoProgress limit now items = (earlier : List PipeItem) (bytes : List ℕ) (moment : ℕ)
    (recent : List PipeItem) → items ≡ earlier ++ Got bytes moment ∷ recent
    → All (IsRecent limit now) (Got bytes moment ∷ recent)
    → length bytes + length (bytes_read_in recent) < progress

-- a connection is shut for the time that passed only where it made no progress
abbrev pub IsTimeSpent : ℕ → ShutCause → List PipeItem → Type 0
IsTimeSpent limit (Silent now) items = HasNoProgress limit now items
IsTimeSpent limit (Late now) items = HasNoProgress limit now items
IsTimeSpent limit _ items = Unit {0}

-- the connection was shut once, as it was then; after that those that waited leave, with the fates
-- of the table, and nothing else happens
pub record IsEnd (first : PipeState) (items : List PipeItem) (state : PipeState) : Type 0 where
  pub before : List PipeItem
  pub last : PipeState
  pub it : Shutting
  pub left : List Leaving
  pub items_are : items ≡ before ++ WasShut it ∷ map Left left
  pub leads : Gains IsPipeStep first before last
  pub live : IsLive last.link
  pub cause : IsCause last it.cause
  pub fates : leaving (fates_of last.link (is_first_gone last.waiters) it.cause) last.waiters
      ≡ left ++ leaving_in state.link state.waiters

-- What the items of a connection mean that is now in this state.
pub record IsLife (limit : ℕ) (items : List PipeItem) (state : PipeState) : Type 0 where
  -- the k-th that asked was answered or dropped, left, or waits as the k-th, also once it gave up
  pub queue : askers_in items ≡ all_as_asked (places_asked items state.waiters)
  -- those that gave up are those whose places say so, once each
  pub quitters : quitters_in items ≡ gone_of (places_asked items state.waiters)
  -- none of them was the front, or gave up before its time limit had passed
  pub quitting : All IsQuitting (flat_map giving_in items)
  -- their responses were read by the forms of their requests, in order
  pub forms : forms_kept items ≡ forms_used items ++ forms_dropped items ++ state.forms
  -- what was written is a beginning of the requests' texts; the rest waits or was dropped
  pub written : texts_in items ≡ written_in items ++ unwritten_dropped items ++ state.unwritten
  -- what was read are the responses' bytes, one after another, and bytes of which none was taken
  pub read : bytes_read_in items ≡ responses_in items ++ unread_dropped items ++ state.unread
  -- each response is that of the request that was lent
  pub answers : All IsTakenResponse (flat_map took_in items)
  -- at each moment, the requests that were answered were written wholly
  pub asked_first : lengths_of (answered_in items) ≤ length (written_in items)
  pub heard : state.heard ≡ heard_after None items
  pub end : IsLive state.link ⊎ IsEnd (opened_pipe limit) items state
  -- if it was shut for the time that passed, it made no progress in the time limit before
  pub spent : (end : IsEnd (opened_pipe limit) items state)
      → IsTimeSpent limit end.it.cause end.before

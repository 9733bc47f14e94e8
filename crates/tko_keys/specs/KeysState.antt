-- The keys of one request, of which several may be under way: what contracts see of them.
use Rattle.std.specs.Prelude.{◌≡◌, ◌≢◌, ◌<◌, ◌+◌, ◌==◌, ℕ, Bool, true, false, not, List, [], ◌∷◌}
use Rattle.std.specs.Prelude.{◌++◌, Option, Some, None, find, flat_map, length, map, slice_get, All}
use Rattle.std.specs.Prelude.{sum_by, ◌-◌}
use Rattle.std.specs.List.{list_all, prefix_len}
use Rattle.std.specs.Option.{option_and_then, option_map}
use Rattle.tko_model.specs.declared.mark.Reply.{Reply}
use Rattle.tko_links.specs.declared.links.Outcome.{Outcome}
use Rattle.tko_text.specs.declared.request.Request.{Request}
use Rattle.tko_route.specs.Underway.{Awaited, has_next}
use Rattle.tko_route.specs.declared.attempt.Attempt.{Attempt}
use Rattle.tko_reply.specs.Answering.{retrieval}
use Rattle.tko_reply.specs.Replies.{end_line}
use Rattle.tko_reply.specs.Standing.{is_joined}
use Rattle.tko_reply.specs.declared.asking.OneKey.{OneKey}
use Rattle.tko_reply.specs.declared.asking.ReplyPart.{ReplyPart}
use Rattle.tko_keys.specs.declared.plan.KeyPlan.{KeyPlan}

-- a key that was begun: its request, the targets that it is routed over, its response, which is
-- kept apart from those of the other keys, and what it waits for while it is due at a server or its
-- request is under way
pub record KeySlot : Type 0 where
  pub key : OneKey
  pub targets : List ℕ
  pub outbox : List ℕ
  pub awaited : Option Awaited

-- a key that is due at a server, which its look-ups found up: its place in the request
pub record DueKey : Type 0 where
  pub place : ℕ
  pub server : ℕ

-- A request that is under way: the server, the places of its keys, and the line where one was made
-- for several keys. Without a line it is the request of one key.
pub record KeySend : Type 0 where
  pub server : ℕ
  pub places : List ℕ
  pub line : Option Request

-- a line that is put together: the places of its keys beside the first one, the request for all of
-- them, and how many bytes it has at most
pub record LineSoFar : Type 0 where
  pub others : List ℕ
  pub request : Request
  pub bytes : ℕ

-- What came of a request: the places of those of its keys that were not taken on; whether a line
-- was made for them, so that each has its part of the response; the outcome, unless memory ran out;
-- and the reply to the call that recorded it.
pub record KeysCame : Type 0 where
  pub places : List ℕ
  pub shared : Bool
  pub outcome : Option Outcome
  pub reply : Option Reply

-- The keys of a request: whether their cas numbers are asked for too; the keys that were not begun;
-- those that were, in the order of the request; those that are due at a server, in the order in
-- which they came there; the requests that are under way, in the order in which they were sent;
-- what came of one and was not taken on; how they are sent; whether the response to a key was no
-- list of values; and whether memory ran out for one.
pub record KeysState : Type 0 where
  pub unique : Bool
  pub left : List (List ℕ)
  pub slots : List KeySlot
  pub due : List DueKey
  pub sends : List KeySend
  pub came : KeysCame
  pub plan : KeyPlan
  pub failed : Bool
  pub lost : Bool

abbrev pub nothing_came : KeysCame
nothing_came = record { places = []; shared = false; outcome = None; reply = None }

-- these keys, none of which was begun
abbrev pub fresh_keys : KeyPlan → List (List ℕ) → Bool → KeysState
fresh_keys plan keys unique = record {
  unique = unique;
  left = keys;
  slots = [];
  due = [];
  sends = [];
  came = nothing_came;
  plan = plan;
  failed = false;
  lost = false;
}

-- the keys of a request, none of which was begun
pub record IsNew (request : Request) (plan : KeyPlan) (state : KeysState) : Type 0 where
  pub keys : List (List ℕ)
  pub unique : Bool
  pub whole : request ≡ retrieval keys unique
  pub is : state ≡ fresh_keys plan keys unique

-- the attempts at a key have ended, and its response is a list of values
abbrev pub listed_by : Option Awaited → ReplyPart → Bool
listed_by None kind = is_joined kind
listed_by (Some awaited) kind = false

abbrev pub has_values : KeySlot → Bool
has_values slot = listed_by slot.awaited slot.key.share

-- the attempts have ended, and the response is no list of values
abbrev pub failed_by : Option Awaited → ReplyPart → Bool
failed_by None kind = not (is_joined kind)
failed_by (Some awaited) kind = false

abbrev pub has_failed : KeySlot → Bool
has_failed slot = failed_by slot.awaited slot.key.share

-- so many keys from the first one on got lists of values
abbrev pub values_ahead : List KeySlot → ℕ
values_ahead slots = prefix_len has_values slots

-- the places of the keys that are due, or of whose request nothing came, or that were not taken on
-- after that
abbrev pub key_places_in : List DueKey → List KeySend → KeysCame → List ℕ
key_places_in due sends came =
    map (λ it. it.place) due ++ (flat_map (λ send. send.places) sends ++ came.places)

abbrev pub places_out : KeysState → List ℕ
places_out state = key_places_in state.due state.sends state.came

-- the servers that requests are under way to, in the order in which they were sent
abbrev pub awaited_servers : KeysState → List ℕ
awaited_servers state = map (λ send. send.server) state.sends

-- the first key that is due at a server
abbrev pub first_due : ℕ → List DueKey → Option DueKey
first_due server due = find (λ it. it.server == server) due

-- the first request under way at a server, whose response comes next from it
abbrev pub first_send : ℕ → List KeySend → Option KeySend
first_send server sends = find (λ send. send.server == server) sends

-- some requests, without the first if it is the one at the server (`true`)
abbrev pub but_first : Bool → KeySend → List KeySend → List KeySend → List KeySend
but_first true send sends others = sends
but_first false send sends others = send ∷ others

-- the others than the first at a server
abbrev pub without_first : ℕ → List KeySend → List KeySend
without_first server [] = []
without_first server (send ∷ sends) =
    but_first (send.server == server) send sends (without_first server sends)

-- One more key may be begun: fewer than `most` are due, under way or not taken on, and the key is
-- fewer than `most` places behind the first one that got no list of values so far.
abbrev pub MayBegin : KeysState → Type 0
MayBegin state = (state.left ≢ []) × (state.failed ≡ false) × (state.lost ≡ false)
    × (length (places_out state) < state.plan.most)
    × (length state.slots < values_ahead state.slots + state.plan.most)

-- nothing is due or under way, what came was taken on, and no key may be begun
abbrev pub IsComplete : KeysState → Type 0
IsComplete state = (places_out state ≡ []) × ¬ (MayBegin state)

-- all values and `END`
abbrev pub values_and_end : List KeySlot → List ℕ
values_and_end slots = flat_map (λ (slot : KeySlot). slot.outbox) slots ++ end_line

-- the reply, given the first key that got no list of values, if there is one
abbrev pub reply_at : Option KeySlot → List KeySlot → List ℕ
reply_at None slots = values_and_end slots
reply_at (Some slot) slots = slot.outbox

-- all values and `END`; or the whole reply to the first key that got no list of values
abbrev pub reply_in : List KeySlot → List ℕ
reply_in slots = reply_at (slice_get slots (values_ahead slots)) slots

-- the bytes of all responses that are kept
abbrev pub bytes_held_in : List KeySlot → ℕ
bytes_held_in slots = sum_by (λ slot. length slot.outbox) slots

-- each of these places is that of a key that was begun
abbrev pub HavePlaces : List KeySlot → List ℕ → Type 0
HavePlaces slots places = All (λ place. place < length slots) places

-- the request of the key of a place
abbrev pub request_at : List KeySlot → ℕ → Option Request
request_at slots place = option_map (λ slot. slot.key.request) (slice_get slots place)

-- a request that is under way: its line, or the request of its key
abbrev pub request_by : List KeySlot → List ℕ → Option Request → Option Request
request_by slots places (Some line) = Some line
request_by slots places None = option_and_then (request_at slots) (slice_get places 0)

abbrev pub request_of : List KeySlot → KeySend → Option Request
request_of slots send = request_by slots send.places send.line

-- the request that was sent last, and the first one under way at a server
abbrev pub asked_last : KeysState → Option Request
asked_last state =
    option_and_then (request_of state.slots) (slice_get state.sends (length state.sends - 1))

abbrev pub asked_first : ℕ → KeysState → Option Request
asked_first server state =
    option_and_then (request_of state.slots) (first_send server state.sends)

-- how many keys the first request under way at a server is for
abbrev pub keys_first : ℕ → KeysState → Option ℕ
keys_first server state = option_map (λ send. length send.places) (first_send server state.sends)

-- the attempts at a key before the server where it is due
abbrev pub attempts_of : Option Awaited → List Attempt
attempts_of None = []
attempts_of (Some awaited) = awaited.attempts

-- the attempts at the key that became due last
abbrev pub attempts_at : List KeySlot → DueKey → Option (List Attempt)
attempts_at slots it = option_map (λ slot. attempts_of slot.awaited) (slice_get slots it.place)

abbrev pub attempts_last : KeysState → Option (List Attempt)
attempts_last state =
    option_and_then (attempts_at state.slots) (slice_get state.due (length state.due - 1))

-- another of these targets is left after the server that a key waits for
abbrev pub has_next_with : Option Awaited → List ℕ → Bool
has_next_with None targets = false
has_next_with (Some awaited) targets = has_next awaited targets

abbrev pub has_next_target : KeySlot → Bool
has_next_target slot = has_next_with slot.awaited slot.targets

-- the key of this place was begun, and has another target
abbrev pub has_next_found : Option KeySlot → Bool
has_next_found None = false
has_next_found (Some slot) = has_next_target slot

abbrev pub has_next_at : List KeySlot → ℕ → Bool
has_next_at slots place = has_next_found (slice_get slots place)

-- there is such a request, and each of its keys has another target
abbrev pub has_next_sent : List KeySlot → Option KeySend → Bool
has_next_sent slots None = false
has_next_sent slots (Some send) = list_all (has_next_at slots) send.places

-- a request is under way to a server, and each key of the first one has another target
abbrev pub has_next_first : ℕ → KeysState → Bool
has_next_first server state = has_next_sent state.slots (first_send server state.sends)

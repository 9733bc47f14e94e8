-- Which keys go out in one request, and which part of what came of it each of them has.
use Rattle.std.specs.Prelude.{◌≡◌, ◌≢◌, ◌<◌, ◌≤◌, ◌+◌, ◌⊎◌, ℕ, Bool, true, false, List, [], ◌∷◌}
use Rattle.std.specs.Prelude.{All, Option, Some, None, length, map, slice_get, sum_by, unwrap_or}
use Rattle.std.specs.Option.{option_map}
use Rattle.tko_text.specs.Limits.{line_limit}
use Rattle.tko_text.specs.Responses.{is_among, part_for}
use Rattle.tko_text.specs.declared.request.Request.{Request}
use Rattle.tko_links.specs.declared.links.Outcome.{Outcome}
use Rattle.tko_links.specs.declared.links.Outcome.TheVariants as outcome
use Rattle.tko_reply.specs.Answering.{retrieval}
use Rattle.tko_reply.specs.Answers.{request_keys}
use Rattle.tko_keys.specs.declared.plan.Grouping.{Grouping}
use Rattle.tko_keys.specs.declared.plan.Grouping.TheVariants.{ByServer}
use Rattle.tko_keys.specs.KeysState.{DueKey, KeySlot, KeysCame}

-- the key that a request for one key is for
abbrev pub key_in_request : Request → List ℕ
key_in_request request = unwrap_or (slice_get (request_keys request) 0) []

abbrev pub key_of : KeySlot → List ℕ
key_of slot = key_in_request slot.key.request

-- the key of a place
abbrev pub key_at : List KeySlot → ℕ → List ℕ
key_at slots place = unwrap_or (option_map key_of (slice_get slots place)) []

-- what came of a request for several keys, for this key: its part of the response, or else what
-- came
abbrev pub outcome_for : List ℕ → Outcome → Outcome
outcome_for key (outcome.Reply response) = outcome.Reply (part_for key response)
outcome_for key outcome.Refused = outcome.Refused
outcome_for key outcome.Timeout = outcome.Timeout
outcome_for key outcome.Broken = outcome.Broken
outcome_for key outcome.Aborted = outcome.Aborted
outcome_for key outcome.Spent = outcome.Spent

-- the same where it is known whether a line was made for several keys
abbrev pub outcome_by : Bool → List ℕ → Outcome → Outcome
outcome_by true key came = outcome_for key came
outcome_by false key came = came

-- what came for a key that is to be taken on, unless memory ran out
abbrev pub part_for_key : KeysCame → List ℕ → Option Outcome
part_for_key came key = option_map (outcome_by came.shared key) came.outcome

-- Some of the keys that are due at a server go out to it: those of these places, in order. The
-- others stay due, in order.
pub data Picks (server : ℕ) : List DueKey → List ℕ → List DueKey → Type 0 where
  none_due : (due : List DueKey) (places : List ℕ) (stay : List DueKey) → due ≡ [] → places ≡ []
      → stay ≡ [] → Picks server due places stay
  goes : (due : List DueKey) (places : List ℕ) (stay : List DueKey) (it : DueKey)
      (rest : List DueKey) (more : List ℕ) → due ≡ it ∷ rest → it.server ≡ server
      → places ≡ it.place ∷ more → Picks server rest more stay → Picks server due places stay
  stays : (due : List DueKey) (places : List ℕ) (stay : List DueKey) (it : DueKey)
      (rest others : List DueKey) → due ≡ it ∷ rest → stay ≡ it ∷ others
      → Picks server rest places others → Picks server due places stay

-- the bytes of such a line without its keys: `gets` and CR LF
abbrev pub line_frame : ℕ
line_frame = 6

-- how many bytes a line for these keys has at most: `gets`, a space and each key, and CR LF
abbrev pub line_length : List (List ℕ) → ℕ
line_length keys = line_frame + sum_by (λ key. 1 + length key) keys

-- none of these keys is there twice
abbrev pub AreDistinctKeys : List (List ℕ) → Type 0
AreDistinctKeys [] = Unit {0}
AreDistinctKeys (key ∷ keys) = All (λ other. other ≢ key) keys × AreDistinctKeys keys

-- one request for the values of these keys
pub record IsLineForKeys (unique : Bool) (keys : List (List ℕ)) (line : Request) : Type 0 where
  pub is : line ≡ retrieval keys unique
  pub apart : AreDistinctKeys keys
  pub fits : line_length keys ≤ line_limit

-- a line is for keys of these places, where keys go out together; without one there is one key
abbrev pub IsSentBy : Grouping → Bool → List KeySlot → List ℕ → Option Request → Type 0
IsSentBy grouping unique slots places None = length places ≡ 1
IsSentBy grouping unique slots places (Some line) =
    (grouping ≡ ByServer) × (places ≢ []) × IsLineForKeys unique (map (key_at slots) places) line

-- a key has no room in a line for these keys: it is one of them, or the line would be too long
abbrev pub HasNoRoom : List (List ℕ) → List ℕ → Type 0
HasNoRoom keys key =
    (is_among keys key ≡ true) ⊎ (line_limit < line_length keys + (1 + length key))

-- the keys that stay due at a server while a line for these keys goes to it have no room in it
abbrev pub IsLineFull : List KeySlot → ℕ → List (List ℕ) → List DueKey → Type 0
IsLineFull slots server keys stay =
    All (λ it. it.server ≡ server → HasNoRoom keys (key_at slots it.place)) stay

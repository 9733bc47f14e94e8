-- Requests sent to servers: what came of each, and how they are counted.
use Rattle.std.specs.Prelude.{◌≡◌, ◌↔◌, ℕ, Bool, true, false, ◌==◌, ◌&&◌, if◌then◌else◌, MatchBool, Option, Some, None, Result, Ok, Err}
use Rattle.tko_text.specs.declared.request.Request.{Request}
use Rattle.tko_links.specs.declared.links.Outcome.{Outcome}
use Rattle.tko_links.specs.declared.links.Outcome.TheVariants as outcome
use Rattle.tko_links.specs.declared.links.ExchangeNoMemory.{ExchangeNoMemory}

-- how often a server can be sent to, and how often it can be probed
abbrev pub most_sends : ℕ
most_sends = 18446744073709551615

-- an item of a links record: this request was sent to this server, or the server was probed, with
-- this outcome, or none where memory ran out
pub data LinksItem : Type 0 where
  Sent : (server : ℕ) (request : Request) (outcome : Option Outcome) → LinksItem
  Probed : (server : ℕ) (outcome : Option Outcome) → LinksItem

-- whether a request was sent where this came of it
abbrev pub is_sent : Outcome → Bool
is_sent (outcome.Reply response) = true
is_sent outcome.Timeout = true
is_sent outcome.Refused = true
is_sent outcome.Broken = true
is_sent outcome.Aborted = true
is_sent outcome.Spent = false

-- whether a call counted a send or a probe; an error for lack of memory says it itself
abbrev pub is_counted : Result Outcome ExchangeNoMemory → Bool
is_counted (Ok came) = is_sent came
is_counted (Err fault) = fault.sent

-- a call's part of the count of a server: one where it sent to that one, or probed it
abbrev pub part_of : Bool → ℕ → ℕ → ℕ
part_of sent to server = if sent && (to == server) then 1 else 0

-- what came of a request, if the call returned it
abbrev pub outcome_in : Result Outcome ExchangeNoMemory → Option Outcome
outcome_in (Ok came) = Some came
outcome_in (Err fault) = None

-- a call ends as `Spent` exactly where this count was used up, and never as `Aborted`
pub record EndsUnaborted (count : ℕ) (result : Result Outcome ExchangeNoMemory) : Type 0 where
  pub spent : (result ≡ Ok outcome.Spent) ↔ (count ≡ most_sends)
  pub aborted : ¬ (result ≡ Ok outcome.Aborted)

-- a call that counted a send is one item, and one that counted none changed nothing
abbrev pub HasExchanged : {L : Type 0} → (L → LinksItem → L → Type 0) → L → ℕ → Request
    → Result Outcome ExchangeNoMemory → L → Type 0
HasExchanged exchanges old server request result new =
    MatchBool (is_counted result)
    (exchanges old (Sent server request (outcome_in result)) new) (new ≡ old)

-- a call that counted a probe is one item, and one that counted none changed nothing
abbrev pub WasProbed : {L : Type 0} → (L → LinksItem → L → Type 0) → L → ℕ
    → Result Outcome ExchangeNoMemory → L → Type 0
WasProbed exchanges old server result new =
    MatchBool (is_counted result)
    (exchanges old (Probed server (outcome_in result)) new) (new ≡ old)

-- An exchange over a wire: what is done at its server, in order, and what comes of it.
use Rattle.std.specs.Prelude.{◌≡◌, ℕ, ◌+◌, ◌⊎◌, Bool, true, false, List, [], ◌∷◌, ◌++◌, map, sum_by, Option, Some, None, Err}
use Rattle.std.specs.List.{concat}
use Rattle.tko_model.specs.Records.{Gains}
use Rattle.tko_text.specs.declared.request.Request.{Request}
use Rattle.tko_text.specs.declared.request.Request.TheVariants.{Version as version}
use Rattle.tko_text.specs.declared.response.Response.{Response}
use Rattle.tko_text.specs.declared.response.fault.ReadFault.TheVariants as read_fault
use Rattle.tko_text.specs.Requests.{request_text}
use Rattle.tko_text.specs.ResponseReads.{NoResponse, ReadsResponse}
use Rattle.tko_links.specs.declared.links.Outcome.{Outcome}
use Rattle.tko_links.specs.declared.links.Outcome.TheVariants as outcome
use Rattle.tko_links.specs.declared.wire.WireFault.TheVariants as wire_fault
use Rattle.tko_links.specs.Incoming.{BeginsWithReply}
use Rattle.tko_links.specs.Wires.{WireItem, Connected, Unconnected, Wrote, Got, Failed, Shut, Checked, Limited, OthersSame}

-- how many failures of the wire an item is: to take none of a piece is one
abbrev pub failures_of : WireItem → ℕ
failures_of (Connected server) = 0
failures_of (Unconnected server) = 1
failures_of (Wrote server []) = 1
failures_of (Wrote server (first ∷ rest)) = 0
failures_of (Got server bytes) = 0
failures_of (Failed server fault) = 1
failures_of (Shut server) = 0
failures_of (Checked server usable) = 0
failures_of (Limited server is_probe) = 0

-- these are the wire's items from the one state to the other, the connection of this server is
-- there at their end or not, and no other server's connection changed
pub record IsPart {W : Type 0} (servers : W → ℕ) (connected : W → ℕ → Bool) (failures : W → ℕ)
    (steps : W → WireItem → W → Type 0) (server : ℕ) (old : W) (items : List WireItem)
    (open_after : Bool) (new : W) : Type 0 where
  pub gains : Gains steps old items new
  pub connection : connected new server ≡ open_after
  pub others : OthersSame server (connected old) (connected new)
  pub failed : failures new ≡ failures old + sum_by failures_of items
  pub same_servers : servers new ≡ servers old

-- a connection that cannot be used is shut
abbrev pub given_up : Bool → ℕ → List WireItem
given_up true server = Checked server false ∷ Shut server ∷ []
given_up false server = []

-- a connection is made, or cannot be made
abbrev pub tried : Bool → ℕ → WireItem
tried true server = Connected server
tried false server = Unconnected server

-- The connection of an exchange: the one that is there, where it can be used, or else a new one,
-- which may fail.
abbrev pub IsOpening : ℕ → Bool → Bool → List WireItem → Type 0
IsOpening server was_connected is_open items =
    ((was_connected ≡ true) × (is_open ≡ true) × (items ≡ Checked server true ∷ []))
    ⊎ (items ≡ given_up was_connected server ++ tried is_open server ∷ [])

-- the pieces that the wire took, and those that it gave
abbrev pub wrote_all : ℕ → List (List ℕ) → List WireItem
wrote_all server pieces = map (Wrote server) pieces

abbrev pub got_all : ℕ → List (List ℕ) → List WireItem
got_all server pieces = map (Got server) pieces

-- the bytes begin the text
pub record BeginsText (bytes text : List ℕ) : Type 0 where
  pub rest : List ℕ
  pub whole : text ≡ bytes ++ rest

-- the last piece is empty: a write took nothing, or a read found the end of input
pub record EndsEmpty (pieces : List (List ℕ)) : Type 0 where
  pub front : List (List ℕ)
  pub whole : pieces ≡ front ++ [] ∷ []

-- Why an exchange is broken: the connection failed, a write took nothing, the input ended and no
-- front of it is a response, or it is unreadable. Nothing is read before all is written.
pub data IsBroken (server : ℕ) (request : Request) (sent got : List (List ℕ)) (tail : List WireItem)
    : Type 0 where
  ConnectionFailed : tail ≡ Failed server wire_fault.Other ∷ []
      → IsBroken server request sent got tail
  WriteTookNone : tail ≡ [] → got ≡ [] → EndsEmpty sent → IsBroken server request sent got tail
  Ended : tail ≡ [] → EndsEmpty got → NoResponse request (concat got)
      → IsBroken server request sent got tail
  Unreadable : tail ≡ [] → ReadsResponse request (concat got) (Err read_fault.Unreadable)
      → IsBroken server request sent got tail

-- the connection stays, or is shut
abbrev pub closing_of : Bool → ℕ → List WireItem
closing_of true server = []
closing_of false server = Shut server ∷ []

-- the response that begins what was read, after the whole request was written; the connection stays
-- exactly if nothing followed the response
pub record IsAnswered (server : ℕ) (request : Request) (response : Response)
    (sent got : List (List ℕ)) (closing : List WireItem) (stays : Bool) : Type 0 where
  pub all_sent : concat sent ≡ request_text request
  pub reply : BeginsWithReply request (concat got) response stays
  pub closed : closing ≡ closing_of stays server

-- nothing is written or read without a connection
pub record IsRefused (sent got : List (List ℕ)) (closing : List WireItem) (stays : Bool)
    : Type 0 where
  pub unsent : sent ≡ []
  pub unread : got ≡ []
  pub closed : closing ≡ []
  pub gone : stays ≡ false

-- the end of an exchange without a response: this, and then the connection is shut
pub record IsExchangeShut (server : ℕ) (tail closing : List WireItem) (stays : Bool) : Type 0 where
  pub closed : closing ≡ tail ++ Shut server ∷ []
  pub gone : stays ≡ false

-- how an exchange ends, by what came of it; nothing where memory ran out
abbrev pub ExchangeEnds : ℕ → Request → Option Outcome → List (List ℕ)
    → List (List ℕ) → List WireItem → Bool → Type 0
ExchangeEnds server request (Some (outcome.Reply response)) sent got closing stays =
    IsAnswered server request response sent got closing stays
ExchangeEnds server request (Some outcome.Refused) sent got closing stays =
    IsRefused sent got closing stays
ExchangeEnds server request (Some outcome.Timeout) sent got closing stays =
    IsExchangeShut server (Failed server wire_fault.TimedOut ∷ []) closing stays
ExchangeEnds server request (Some outcome.Broken) sent got closing stays =
    (tail : List WireItem) × IsBroken server request sent got tail
    × IsExchangeShut server tail closing stays
ExchangeEnds server request (Some outcome.Aborted) sent got closing stays = ⊥
ExchangeEnds server request (Some outcome.Spent) sent got closing stays = ⊥
ExchangeEnds server request None sent got closing stays = IsExchangeShut server [] closing stays

-- whether an exchange had a connection
abbrev pub is_reached : Option Outcome → Bool
is_reached (Some outcome.Refused) = false
is_reached _ = true

-- Of this request that came, and the wire did this: a connection was found or made, a beginning of
-- the request was written, bytes were read only after all of it, and the exchange ended.
pub record IsWireExchange {W : Type 0} (servers : W → ℕ) (connected : W → ℕ → Bool)
    (failures : W → ℕ) (steps : W → WireItem → W → Type 0) (server : ℕ) (request : Request)
    (old : W) (came : Option Outcome) (new : W) : Type 0 where
  pub opening : List WireItem
  pub sent : List (List ℕ)
  pub got : List (List ℕ)
  pub closing : List WireItem
  pub stays : Bool
  pub part : IsPart servers connected failures steps server old
      (opening ++ (wrote_all server sent ++ (got_all server got ++ closing))) stays new
  pub opens : IsOpening server (connected old server) (is_reached came) opening
  pub front : BeginsText (concat sent) (request_text request)
  pub order : (got ≡ []) ⊎ (concat sent ≡ request_text request)
  pub ends : ExchangeEnds server request came sent got closing stays

-- A probe asks for the version, in an exchange under the time limit of probes. After it the whole
-- limit is set again.
pub record IsProbing {W : Type 0} (servers : W → ℕ) (connected : W → ℕ → Bool) (failures : W → ℕ)
    (steps : W → WireItem → W → Type 0) (server : ℕ) (old : W) (came : Option Outcome) (new : W)
    : Type 0 where
  pub first : W
  pub last : W
  pub begun : IsPart servers connected failures steps server old (Limited server true ∷ [])
      (connected old server) first
  pub exchange : IsWireExchange servers connected failures steps server version first came last
  pub ended : IsPart servers connected failures steps server last (Limited server false ∷ [])
      (connected last server) new

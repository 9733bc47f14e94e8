-- The parts of an exchange over a wire, and the result of each.
use Rattle.std.specs.Prelude.{◌≡◌, ℕ, ◌⊎◌, Bool, true, false, List, [], ◌∷◌, ◌++◌, length, Result, Ok, Err}
use Rattle.std.specs.List.{concat}
use Rattle.tko_text.specs.declared.request.Request.{Request}
use Rattle.tko_text.specs.declared.response.Response.{Response}
use Rattle.tko_text.specs.Requests.{request_text}
use Rattle.tko_links.specs.declared.fault.LinkFault.{LinkFault}
use Rattle.tko_links.specs.declared.fault.LinkFault.TheVariants as fault
use Rattle.tko_links.specs.declared.links.ExchangeNoMemory.{ExchangeNoMemory}
use Rattle.tko_links.specs.declared.links.Outcome.{Outcome}
use Rattle.tko_links.specs.declared.links.Outcome.TheVariants as outcome
use Rattle.tko_links.specs.declared.wire.WireFault.TheVariants as wire_fault
use Rattle.tko_links.specs.Exchanges.{BeginsText, IsBroken, IsOpening, IsPart, got_all, wrote_all}
use Rattle.tko_links.specs.Faults.{exchange_outcome}
use Rattle.tko_links.specs.Incoming.{BeginsWithReply}
use Rattle.tko_links.specs.Wires.{WireItem, Got, Failed}

-- a connection was found or made, or could not be made
pub record Opens {W : Type 0} (servers : W → ℕ) (connected : W → ℕ → Bool) (failures : W → ℕ)
    (steps : W → WireItem → W → Type 0) (server : ℕ) (old : W) (is_open : Bool) (new : W)
    : Type 0 where
  pub items : List WireItem
  pub part : IsPart servers connected failures steps server old items is_open new
  pub opens : IsOpening server (connected old server) is_open items

-- how a writing of the text ends after these pieces
abbrev pub WriteEnds : ℕ → List ℕ → List (List ℕ) → List WireItem → Result Unit LinkFault → Type 0
WriteEnds server text pieces tail (Ok done) = (tail ≡ []) × (concat pieces ≡ text)
WriteEnds server text pieces tail (Err fault.TimedOut) =
    tail ≡ Failed server wire_fault.TimedOut ∷ []
WriteEnds server text pieces tail (Err fault.Broken) =
    (request : Request) → IsBroken server request pieces [] tail
WriteEnds server text pieces tail (Err fault.Memory) = ⊥

-- a beginning of the text was written
pub record SendsPart {W : Type 0} (servers : W → ℕ) (connected : W → ℕ → Bool) (failures : W → ℕ)
    (steps : W → WireItem → W → Type 0) (server : ℕ) (text : List ℕ) (old : W)
    (result : Result Unit LinkFault) (new : W)
    : Type 0 where
  pub pieces : List (List ℕ)
  pub tail : List WireItem
  pub part : IsPart servers connected failures steps server old
      (wrote_all server pieces ++ tail) true new
  pub front : BeginsText (concat pieces) text
  pub ends : WriteEnds server text pieces tail result

-- what one read for a response did: a piece came, which may be empty, or the read failed; where
-- memory for the room ran out, nothing was read
abbrev pub ReadsPiece : {W : Type 0} → (W → ℕ) → (W → ℕ → Bool) → (W → ℕ)
    → (W → WireItem → W → Type 0) → ℕ → W → List ℕ → Result ℕ LinkFault → W → List ℕ → Type 0
ReadsPiece servers connected failures steps server old bytes (Ok count) new bytes' =
    (piece : List ℕ) × (bytes' ≡ bytes ++ piece) × (length piece ≡ count)
    × IsPart servers connected failures steps server old (Got server piece ∷ []) true new
ReadsPiece servers connected failures steps server old bytes (Err fault.TimedOut) new bytes' =
    IsPart servers connected failures steps server old
    (Failed server wire_fault.TimedOut ∷ []) true new
ReadsPiece servers connected failures steps server old bytes (Err fault.Broken) new bytes' =
    IsPart servers connected failures steps server old
    (Failed server wire_fault.Other ∷ []) true new
ReadsPiece servers connected failures steps server old bytes (Err fault.Memory) new bytes' =
    new ≡ old

-- how the reading of a response ends after these pieces
abbrev pub ReceiveEnds : ℕ → Request → List (List ℕ) → List WireItem
    → Result (Response × Bool) LinkFault → Type 0
ReceiveEnds server request pieces tail (Ok reply) =
    (tail ≡ []) × BeginsWithReply request (concat pieces) reply.0 reply.1
ReceiveEnds server request pieces tail (Err fault.TimedOut) =
    tail ≡ Failed server wire_fault.TimedOut ∷ []
ReceiveEnds server request pieces tail (Err fault.Broken) =
    (sent : List (List ℕ)) → IsBroken server request sent pieces tail
ReceiveEnds server request pieces tail (Err fault.Memory) = tail ≡ []

pub record Receives {W : Type 0} (servers : W → ℕ) (connected : W → ℕ → Bool) (failures : W → ℕ)
    (steps : W → WireItem → W → Type 0) (server : ℕ) (request : Request) (old : W)
    (result : Result (Response × Bool) LinkFault) (new : W) : Type 0 where
  pub pieces : List (List ℕ)
  pub tail : List WireItem
  pub part : IsPart servers connected failures steps server old
      (got_all server pieces ++ tail) true new
  pub ends : ReceiveEnds server request pieces tail result

-- how a request and its response end
abbrev pub SendAndReceiveEnds : ℕ → Request → List (List ℕ) → List (List ℕ) → List WireItem
    → Result (Response × Bool) LinkFault → Type 0
SendAndReceiveEnds server request sent got tail (Ok reply) =
    (tail ≡ []) × (concat sent ≡ request_text request)
    × BeginsWithReply request (concat got) reply.0 reply.1
SendAndReceiveEnds server request sent got tail (Err fault.TimedOut) =
    tail ≡ Failed server wire_fault.TimedOut ∷ []
SendAndReceiveEnds server request sent got tail (Err fault.Broken) =
    IsBroken server request sent got tail
SendAndReceiveEnds server request sent got tail (Err fault.Memory) = tail ≡ []

-- a request was written and its response read, over a connection that is there
pub record SendsAndReceives {W : Type 0} (servers : W → ℕ) (connected : W → ℕ → Bool)
    (failures : W → ℕ) (steps : W → WireItem → W → Type 0) (server : ℕ) (request : Request)
    (old : W)
    (result : Result (Response × Bool) LinkFault) (new : W) : Type 0 where
  pub sent : List (List ℕ)
  pub got : List (List ℕ)
  pub tail : List WireItem
  pub part : IsPart servers connected failures steps server old
      (wrote_all server sent ++ (got_all server got ++ tail)) true new
  pub front : BeginsText (concat sent) (request_text request)
  pub order : (got ≡ []) ⊎ (concat sent ≡ request_text request)
  pub ends : SendAndReceiveEnds server request sent got tail result

-- whether the connection stays after this, and the item where it does not
abbrev pub stays_after : Result (Response × Bool) LinkFault → Bool
stays_after (Ok reply) = reply.1
stays_after (Err fault) = false

-- what an exchange returns, which was counted
abbrev pub returned : Result (Response × Bool) LinkFault → Result Outcome ExchangeNoMemory
returned (Ok reply) = Ok (outcome.Reply reply.0)
returned (Err fault) = exchange_outcome fault

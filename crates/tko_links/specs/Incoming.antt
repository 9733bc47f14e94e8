-- A response that comes in pieces.
use Rattle.std.specs.Prelude.{◌≡◌, ℕ, ◌==◌, ◌⊎◌, Bool, List, [], ◌++◌, length, Option, Some, None, Result, Ok, Err}
use Rattle.tko_text.specs.declared.request.Request.{Request}
use Rattle.tko_text.specs.declared.response.Response.{Response}
use Rattle.tko_text.specs.declared.response.fault.ReadFault.TheVariants as read_fault
use Rattle.tko_text.specs.ResponseLengths.{IsLeastLength}
use Rattle.tko_text.specs.ResponseReads.{NoResponse, ReadsResponse}
use Rattle.tko_links.specs.declared.incoming.IncomingResponse.{IncomingResponse}
use Rattle.tko_links.specs.declared.fault.LinkFault.{LinkFault}
use Rattle.tko_links.specs.declared.fault.LinkFault.TheVariants as fault

-- the bytes that have come, and a length that no response which they begin is shorter than
pub record ResponseSoFar : Type 0 where
  pub bytes : List ℕ
  pub least : ℕ

-- what has come of a response
abbrev pub arrival : IncomingResponse → ResponseSoFar
arrival it = record { bytes = it.buffer; least = it.least }

-- no byte has come
abbrev pub nothing_yet : ResponseSoFar
nothing_yet = record { bytes = []; least = 0 }

-- no front of the bytes is a response to the request yet
pub record IsResponseAwaited (request : Request) (arrival : ResponseSoFar) : Type 0 where
  pub unanswered : NoResponse request arrival.bytes
  pub least : IsLeastLength request arrival.bytes arrival.least

-- a piece has come since the response was awaited
pub record HasPieceCome (request : Request) (arrival : ResponseSoFar) (count : ℕ) : Type 0 where
  pub front : List ℕ
  pub piece : List ℕ
  pub whole : arrival.bytes ≡ front ++ piece
  pub len : length piece ≡ count
  pub awaited : IsResponseAwaited request (record { bytes = front; least = arrival.least })

-- the bytes begin with the response, and nothing follows it or something does
pub record BeginsWithReply (request : Request) (bytes : List ℕ) (response : Response)
    (is_last : Bool) : Type 0 where
  pub len : ℕ
  pub reads : ReadsResponse request bytes (Ok (response, len))
  pub ends : is_last ≡ (len == length bytes)

-- what the bytes are, after a piece of `count` bytes has come: a response, none yet, or never one
abbrev pub JudgesBytes : Request → List ℕ → ℕ → ResponseSoFar
    → Result (Option (Response × Bool)) LinkFault → Type 0
JudgesBytes request bytes count new (Ok (Some reply)) =
    BeginsWithReply request bytes reply.0 reply.1
JudgesBytes request bytes count new (Ok None) = IsResponseAwaited request new
JudgesBytes request bytes count new (Err fault.TimedOut) = ⊥
JudgesBytes request bytes count new (Err fault.Broken) =
    ((count ≡ 0) × NoResponse request bytes)
    ⊎ ReadsResponse request bytes (Err read_fault.Unreadable)
JudgesBytes request bytes count new (Err fault.Memory) = Unit {0}

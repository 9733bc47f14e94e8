-- Asking a server for its version over a wire: what is done at it, and what comes of it.
use Rattle.std.specs.Prelude.{◌≡◌, ℕ, ◌⊎◌, Bool, true, false, List, [], ◌∷◌, ◌++◌, codes, Option, Some, None, Result, Ok, Err}
use Rattle.std.specs.List.{concat}
use Rattle.tko_text.specs.declared.request.Request.TheVariants as request
use Rattle.tko_text.specs.declared.response.Response.{Response}
use Rattle.tko_text.specs.declared.response.Response.TheVariants as response
use Rattle.tko_text.specs.declared.response.fault.ReadFault.{ReadFault}
use Rattle.tko_text.specs.declared.response.fault.ReadFault.TheVariants as read_fault
use Rattle.tko_text.specs.ResponseReads.{NoResponse, ReadsResponse}
use Rattle.tko_links.specs.declared.wire.WireFault.{WireFault}
use Rattle.tko_links.specs.declared.wire.WireFault.TheVariants as wire_fault
use Rattle.tko_links.specs.Exchanges.{BeginsText, EndsEmpty, IsPart, got_all, wrote_all}
use Rattle.tko_links.specs.Wires.{WireItem, Connected, Failed, Unconnected}
use Rattle.tko_reach.specs.declared.reach.Reach.{Reach}
use Rattle.tko_reach.specs.declared.reach.Reach.TheVariants as reach

-- what a server is asked
abbrev pub version_question : List ℕ
version_question = codes "version\r\n"

-- what came where no connection could be made
abbrev pub reach_unconnected : WireFault → Reach
reach_unconnected wire_fault.TimedOut = reach.Timeout
reach_unconnected wire_fault.Other = reach.Refused

-- what came where the connection failed
abbrev pub reach_cut : WireFault → Reach
reach_cut wire_fault.TimedOut = reach.Timeout
reach_cut wire_fault.Other = reach.Broken

-- whether a response is no version
abbrev pub is_no_version : Response → Bool
is_no_version (response.Version text) = false
is_no_version _ = true

-- whether what was read is an answer, and no version
abbrev pub is_other_answer : Result (Response × ℕ) ReadFault → Bool
is_other_answer (Ok found) = is_no_version found.0
is_other_answer (Err read_fault.Short) = false
is_other_answer (Err read_fault.Unreadable) = true
is_other_answer (Err read_fault.Memory) = false

-- the bytes begin with another response, or with none at all, however they go on
pub record BeginsOtherAnswer (bytes : List ℕ) : Type 0 where
  pub read : Result (Response × ℕ) ReadFault
  pub is_read : ReadsResponse request.Version bytes read
  pub other : is_other_answer read ≡ true

-- what the bytes of an answer say; nothing as long as they are the beginning of one
abbrev pub IsHeard : List ℕ → Option Reach → Type 0
IsHeard bytes None = ReadsResponse request.Version bytes (Err read_fault.Short)
IsHeard bytes (Some (reach.Version text)) =
    (len : ℕ) × ReadsResponse request.Version bytes (Ok (response.Version text, len))
IsHeard bytes (Some (reach.Answer answer)) = BeginsOtherAnswer bytes × (answer.items ≡ bytes)
IsHeard bytes (Some _) = ⊥

-- how a writing of the text ends after these pieces
abbrev pub SendingEnds : ℕ → List ℕ → List (List ℕ) → List WireItem → Result Unit WireFault → Type 0
SendingEnds server text pieces tail (Ok done) = (tail ≡ []) × (concat pieces ≡ text)
SendingEnds server text pieces tail (Err wire_fault.TimedOut) =
    tail ≡ Failed server wire_fault.TimedOut ∷ []
SendingEnds server text pieces tail (Err wire_fault.Other) =
    (tail ≡ Failed server wire_fault.Other ∷ []) ⊎ ((tail ≡ []) × EndsEmpty pieces)

-- how a reading of an answer ends after these pieces: with what they say, or the connection failed
-- or ended before they were an answer
abbrev pub HearingEnds : ℕ → List (List ℕ) → List WireItem → Reach → Type 0
HearingEnds server pieces tail (reach.Version text) =
    (tail ≡ []) × IsHeard (concat pieces) (Some (reach.Version text))
HearingEnds server pieces tail (reach.Answer answer) =
    (tail ≡ []) × IsHeard (concat pieces) (Some (reach.Answer answer))
HearingEnds server pieces tail reach.Refused = ⊥
HearingEnds server pieces tail reach.Timeout = tail ≡ Failed server wire_fault.TimedOut ∷ []
HearingEnds server pieces tail reach.Broken =
    (tail ≡ Failed server wire_fault.Other ∷ [])
    ⊎ ((tail ≡ []) × EndsEmpty pieces × NoResponse request.Version (concat pieces))

module _ {W : Type 0} (servers : W → ℕ) (connected : W → ℕ → Bool) (failures : W → ℕ)
    (steps : W → WireItem → W → Type 0) (server : ℕ) where
  -- a beginning of the text was written to the server, and nothing else was done
  pub record Sends (text : List ℕ) (old : W) (result : Result Unit WireFault) (new : W)
      : Type 0 where
    pub pieces : List (List ℕ)
    pub tail : List WireItem
    pub part : IsPart servers connected failures steps server old
        (wrote_all server pieces ++ tail) true new
    pub front : BeginsText (concat pieces) text
    pub ends : SendingEnds server text pieces tail result

  -- bytes of the server were read, and nothing else was done
  pub record Hears (old : W) (came : Reach) (new : W) : Type 0 where
    pub pieces : List (List ℕ)
    pub tail : List WireItem
    pub part : IsPart servers connected failures steps server old
        (got_all server pieces ++ tail) true new
    pub ends : HearingEnds server pieces tail came

  -- the server was connected, asked for its version, and heard, as far as this could be done
  pub data IsServerAsked (old : W) (came : Reach) (new : W) : Type 0 where
    NotConnected : (fault : WireFault)
        → IsPart servers connected failures steps server old (Unconnected server ∷ []) false new
        → came ≡ reach_unconnected fault → IsServerAsked old came new
    NotAsked : (opened : W) (fault : WireFault)
        → IsPart servers connected failures steps server old (Connected server ∷ []) true opened
        → Sends version_question opened (Err fault) new → came ≡ reach_cut fault
        → IsServerAsked old came new
    Heard : (opened sent : W)
        → IsPart servers connected failures steps server old (Connected server ∷ []) true opened
        → Sends version_question opened (Ok tt) sent → Hears sent came new
        → IsServerAsked old came new

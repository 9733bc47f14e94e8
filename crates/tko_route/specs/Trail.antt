-- The trail of a request: its attempts at one target after another. Nothing here knows a loop.
use Rattle.std.specs.Prelude.{◌≡◌, ℕ, zero, suc, ◌<◌, ◌+◌, ◌-◌, Bool, false, MatchOption, ◌==◌, ◌⊎◌, List, [], ◌∷◌, ◌++◌, length, map, take, All, count_by, slice_get, slice_index, Option, Some, None, IsSome, Ok, Err}
use Rattle.std.specs.Option.{option_and_then}
use Rattle.tko_model.specs.declared.mark.Op.{Op}
use Rattle.tko_model.specs.declared.mark.Op.TheVariants.{SoftFailure, HardFailure, Success}
use Rattle.tko_model.specs.declared.mark.Reply.{Reply}
use Rattle.tko_model.specs.declared.mark.Reply.TheVariants as reply
use Rattle.tko_model.specs.Records.{Gains, HealthItem, Called}
use Rattle.tko_text.specs.declared.request.Request.{Request}
use Rattle.tko_text.specs.declared.response.Response.{Response}
use Rattle.tko_text.specs.SentRequests.{with_replaced_expiry}
use Rattle.tko_links.specs.declared.links.Outcome.{Outcome}
use Rattle.tko_links.specs.declared.links.Outcome.TheVariants as outcome
use Rattle.tko_route.specs.declared.attempt.Attempt.{Attempt}
use Rattle.tko_route.specs.declared.attempt.Attempt.TheVariants as attempt
use Rattle.tko_links.specs.Links.{part_of}
use Rattle.tko_route.specs.Calls.{Upstream, RoutedCall, DoesCall, Told, came, look_up}

-- the table of outcomes: the operation that records each
abbrev pub op_of : Outcome → Option Op
op_of (outcome.Reply response) = Some Success
op_of outcome.Refused = Some HardFailure
op_of outcome.Timeout = Some SoftFailure
op_of outcome.Broken = Some SoftFailure
op_of outcome.Aborted = None
op_of outcome.Spent = None

-- the server that an attempt was at
abbrev pub server_of : Attempt → ℕ
server_of (attempt.Skipped server mark) = server
server_of (attempt.Sent server got answer) = server
server_of (attempt.Aborted server) = server
server_of (attempt.Spent server) = server

-- what a server answered
abbrev pub response_in : Outcome → Option Response
response_in (outcome.Reply response) = Some response
response_in outcome.Timeout = None
response_in outcome.Refused = None
response_in outcome.Broken = None
response_in outcome.Aborted = None
response_in outcome.Spent = None

-- the response that an attempt got
abbrev pub response_of : Attempt → Option Response
response_of (attempt.Skipped server mark) = None
response_of (attempt.Sent server got answer) = response_in got
response_of (attempt.Aborted server) = None
response_of (attempt.Spent server) = None

-- what came of the exchange that an attempt was
abbrev pub outcome_of : Attempt → Option Outcome
outcome_of (attempt.Skipped server mark) = None
outcome_of (attempt.Sent server got answer) = Some got
outcome_of (attempt.Aborted server) = Some outcome.Aborted
outcome_of (attempt.Spent server) = Some outcome.Spent

-- the reply to the call that recorded what came of an attempt
abbrev pub recorded_reply : Attempt → Option Reply
recorded_reply (attempt.Skipped server mark) = None
recorded_reply (attempt.Sent server got answer) = Some answer
recorded_reply (attempt.Aborted server) = None
recorded_reply (attempt.Spent server) = None

-- an attempt that got a response
abbrev pub IsAnswer : Attempt → Type 0
IsAnswer it = IsSome (response_of it)

-- whether an attempt sent to this server
abbrev pub is_send : ℕ → Attempt → Bool
is_send server (attempt.Skipped at mark) = false
is_send server (attempt.Sent at got answer) = at == server
is_send server (attempt.Aborted at) = at == server
is_send server (attempt.Spent at) = false

-- how often a trail sent to this server
abbrev pub sends_in : ℕ → List Attempt → ℕ
sends_in server trail = count_by (is_send server) trail

-- the response of the last attempt
abbrev pub answer_of : List Attempt → Option Response
answer_of trail = option_and_then response_of (slice_get trail (length trail - 1))

-- no attempt was answered
abbrev pub NoneAnswered : List Attempt → Type 0
NoneAnswered trail = All (λ it. ¬ IsAnswer it) trail

-- the last attempt was answered, and none before it
pub record LastAnswered (trail : List Attempt) : Type 0 where
  pub before : List Attempt
  pub last : Attempt
  pub parts : trail ≡ before ++ last ∷ []
  pub answer : IsAnswer last
  pub others : NoneAnswered before

-- the attempts are at the targets in order, and go on until one is answered
pub record IsTrail (targets : List ℕ) (trail : List Attempt) : Type 0 where
  pub servers : map server_of trail ≡ take (length trail) targets
  pub ends : ((length trail ≡ length targets) × NoneAnswered trail) ⊎ LastAnswered trail

-- the attempts are at targets in order, none was answered, and at least one target is left
pub record IsCutTrail (targets : List ℕ) (trail : List Attempt) : Type 0 where
  pub servers : map server_of trail ≡ take (length trail) targets
  pub shorter : length trail < length targets
  pub unanswered : NoneAnswered trail

-- the target after those of a trail
abbrev pub next_target : List ℕ → List Attempt → ℕ
next_target targets trail = slice_index targets (length trail)

-- this operation, if there is one, was called of a server, and got this reply; without an operation
-- nothing changed
abbrev pub IsRecorded : {H : Type 0} → (H → HealthItem → H → Type 0) → H → ℕ → Option Op
    → Option Reply → H → Type 0
IsRecorded steps old server op reply new =
    MatchOption op ((reply ≡ None) × (new ≡ old))
    (λ called. (answer : Reply) × (reply ≡ Some answer)
    × steps old (Called called server answer) new)

-- the calls that record an operation of a server, which got this reply: that one; or none, where
-- there is no operation
abbrev pub record_of : ℕ → Option Op → Option Reply → List HealthItem
record_of server (Some op) (Some answer) = Called op server answer ∷ []
record_of server (Some op) None = []
record_of server None reply = []

-- the calls of one attempt: a look-up that found that mark; or one that found the server up, then
-- the exchange, then the call that the table of outcomes names; or one that found the server up,
-- and an exchange that was aborted, or that sent nothing, since the server's count is used up
abbrev pub IsAttempt : Request → List RoutedCall → Attempt → Type 0
IsAttempt request calls (attempt.Skipped server mark) =
    calls ≡ look_up server (reply.Marked mark) ∷ []
IsAttempt request calls (attempt.Sent server got answer) =
    (count : ℕ) × (op : Op) × (op_of got ≡ Some op)
    × (calls ≡ look_up server (reply.Up count) ∷ came server request (Ok got)
    ∷ Told (Called op server answer) ∷ [])
IsAttempt request calls (attempt.Aborted server) =
    (count : ℕ)
    × (calls ≡ look_up server (reply.Up count) ∷ came server request (Ok outcome.Aborted) ∷ [])
IsAttempt request calls (attempt.Spent server) =
    (count : ℕ)
    × (calls ≡ look_up server (reply.Up count) ∷ came server request (Ok outcome.Spent) ∷ [])

-- the form in which a request is sent to the target at a place of the list: the first target gets
-- the request's own expiry, each later one the replaced expiry
abbrev pub form_at : ℕ → Request → ℕ → Request
form_at exptime request zero = request
form_at exptime request (suc place) = with_replaced_expiry exptime request

-- an attempt at the target at this place of the list
pub record Placed : Type 0 where
  pub place : ℕ
  pub attempt : Attempt

-- attempts at the targets from this place on, one after another
abbrev pub placed_from : ℕ → List Attempt → List Placed
placed_from place [] = []
placed_from place (it ∷ trail) =
    record { place = place; attempt = it } ∷ placed_from (suc place) trail

-- an attempt adds its calls to those before, with the request in the form of its place
abbrev pub AddsAttempt : (ℕ → Request) → List RoutedCall → Placed → List RoutedCall → Type 0
AddsAttempt form before it after =
    (calls : List RoutedCall) × IsAttempt (form it.place) calls it.attempt
    × (after ≡ before ++ calls)

-- these calls are those of the attempts of a trail, from the first target of the list on
pub record MakesTrail (form : ℕ → Request) (calls : List RoutedCall) (trail : List Attempt)
    : Type 0 where
  pub adds : Gains (AddsAttempt form) [] (placed_from 0 trail) calls

module _ {H L : Type 0} (upstream : Upstream H L) (form : ℕ → Request) where
  -- the attempts of a trail were made at the servers, with the request in the form of each place
  pub record Attempts (old : H × L) (trail : List Attempt) (new : H × L) : Type 0 where
    pub calls : List RoutedCall
    pub make : MakesTrail form calls trail
    pub gains : Gains (DoesCall upstream) old calls new

-- memory ran out before the first attempt
pub record NothingDone {S : Type 0} (old : S) (trail : List Attempt) (sent : Bool) (new : S)
    : Type 0 where
  pub untried : trail ≡ []
  pub unsent : sent ≡ false
  pub same : new ≡ old

module _ {H L : Type 0} (upstream : Upstream H L) (targets : List ℕ) (form : ℕ → Request) where
  -- a request was routed over these targets, in the form of each place, and each server's count of
  -- sends rose by the attempts that sent to it
  pub record IsRouted (old : H × L) (trail : List Attempt) (new : H × L) : Type 0 where
    pub tried : IsTrail targets trail
    pub attempts : Attempts upstream form old trail new
    pub sends : (server : ℕ)
        → upstream.sent new.1 server ≡ upstream.sent old.1 server + sends_in server trail

  -- these attempts were made, a look-up found the next target up, and memory ran out at the
  -- exchange with it, which sent the request or did not
  pub record RanShort (old : H × L) (trail : List Attempt) (sent : Bool) (new : H × L)
      : Type 0 where
    pub calls : List RoutedCall
    pub make : MakesTrail form calls trail
    pub server : ℕ
    pub is_next : server ≡ next_target targets trail
    pub count : ℕ
    pub gains : Gains (DoesCall upstream) old
        (calls ++ look_up server (reply.Up count)
        ∷ came server (form (length trail)) (Err (record { sent = sent })) ∷ [])
        new

  -- memory ran out in a routed request, before the first attempt or at the target after those of
  -- the trail: each server's count of sends rose by the attempts that sent to it, and that of the
  -- next target by one more if a request was sent to it
  pub record IsCut (old : H × L) (trail : List Attempt) (sent : Bool) (new : H × L) : Type 0 where
    pub tried : IsCutTrail targets trail
    pub attempts : NothingDone old trail sent new ⊎ RanShort old trail sent new
    pub sends : (server : ℕ) → upstream.sent new.1 server
        ≡ upstream.sent old.1 server + sends_in server trail
        + part_of sent (next_target targets trail) server

  -- a request was routed so, and then has the form of the last target that was tried
  pub record HasRouted (old : H × L) (trail : List Attempt) (new : H × L) (request : Request)
      : Type 0 where
    pub routed : IsRouted old trail new
    pub form_is : request ≡ form (length trail - 1)

  -- memory ran out so in a routed request, which then has the form of the target after those of the
  -- trail
  pub record HasCutShort (old : H × L) (trail : List Attempt) (sent : Bool) (new : H × L)
      (request : Request) : Type 0 where
    pub cut : IsCut old trail sent new
    pub form_is : request ≡ form (length trail)

-- One client's whole life: the bytes that came from it, those that went to it, and what was done
-- for it, whatever was done for others between.
use Rattle.std.specs.Prelude.{◌≡◌, ◌⊎◌, ℕ, List, [], ◌∷◌, ◌++◌, Option, Some, None, flat_map, length}
use Rattle.tko_text.specs.Reading.{Emits, Gives, Reading, fed, reading_start}
use Rattle.tko_text.specs.declared.item.Item.{Item}
use Rattle.tko_text.specs.declared.item.Item.TheVariants as item
use Rattle.tko_text.specs.declared.request.Request.{Request}
use Rattle.tko_pools.specs.Configs.{Configuration}
use Rattle.tko_bytes.specs.Numbers.{capped}
use Rattle.tko_reply.specs.Interactions.{Interaction, Recorded}
use Rattle.tko_reply.specs.TrailEvents.{Asked}
use Rattle.tko_keys.specs.KeysState.{KeysState}
use Rattle.tko_keys.specs.declared.plan.KeyPlan.{KeyPlan}
use Rattle.tko_session.specs.SessionState.{ContinuesAfterAll, EndsWith, SessionState, fresh_session, items_of, line_too_long, quit, replies_text, requests_in}
use Rattle.tko_session.specs.SoFar.{IsPendingAt, PendingRequest}
use Rattle.tko_session.specs.Turns.{IsRequestCutWithin, IsTurnWithin, SessionTurn}
use Rattle.tko_session.specs.Working.{Between}

-- what came from a client, what went to it, and what was done for it, each in order
pub record Life : Type 0 where
  pub bytes : List ℕ
  pub sent : List ℕ
  pub done : List Interaction

abbrev pub life : List ℕ → List ℕ → List Interaction → Life
life bytes sent done = record { bytes = bytes; sent = sent; done = done }

-- nothing yet
abbrev pub no_life : Life
no_life = life [] [] []

-- a life, and what an act added to it
abbrev pub lived : Life → Life → Life
lived old adds =
    life (old.bytes ++ adds.bytes) (old.sent ++ adds.sent) (old.done ++ adds.done)

-- all that these acts added
abbrev pub life_of : List Life → Life
life_of acts = life (flat_map (λ it. it.bytes) acts) (flat_map (λ it. it.sent) acts)
    (flat_map (λ it. it.done) acts)

-- how a client's session stands: it is open; or its last item ended it; or memory ran out for it
pub data ClientPhase : Type 0 where
  Open : ClientPhase
  Over : ClientPhase
  Short : ClientPhase

-- A client of a worker: how the keys of a request of it may be sent, how its session stands, the
-- session, and the keys of its request, where that was handed over.
pub record ClientState : Type 0 where
  pub plan : KeyPlan
  pub phase : ClientPhase
  pub session : SessionState
  pub keys : Option KeysState

-- one that has just come
abbrev pub new_client : KeyPlan → ClientState
new_client plan = record { plan = plan; phase = Open; session = fresh_session; keys = None }

-- items were answered, one after another, each by its own interactions
abbrev pub AreTurns : KeyPlan → Configuration → List SessionTurn → List Interaction → Type 0
AreTurns plan config [] done = done ≡ []
AreTurns plan config (turn ∷ turns) done = (first rest : List Interaction)
    × IsTurnWithin plan config turn first × AreTurns plan config turns rest × (done ≡ first ++ rest)

-- the item of the request under way, if there is one
abbrev pub items_under : Option PendingRequest → List Item
items_under None = []
items_under (Some it) = item.Request it.request ∷ []

-- what was done for it, first of all that it was recorded
abbrev pub done_under : Option PendingRequest → List Interaction
done_under None = []
done_under (Some it) = Recorded (Asked it.request) ∷ it.done

-- the replies that are complete
abbrev pub waiting_in : Option PendingRequest → List ℕ → List ℕ
waiting_in None outbox = outbox
waiting_in (Some it) outbox = it.front

-- no request is under way; or this one is, and its reply begins behind the complete ones
abbrev pub HasPending : KeyPlan → Option KeysState → Configuration → Option PendingRequest
    → SessionState → Type 0
HasPending plan keys config None state = state.work ≡ Between
HasPending plan keys config (Some it) state = (state.begin ≡ length it.front)
    × IsPendingAt plan keys config it state.work state.targets state.outbox

-- Its session is open: the bytes that came are the items of its turns, none of which ended it, and
-- of the request under way, and then what is not read yet; the texts of the turns went to the
-- client or wait for it, in order; and what was done is what the turns did, and then what was done
-- for the request under way.
pub record IsClientOpen (plan : KeyPlan) (keys : Option KeysState) (config : Configuration)
    (it : Life) (state : SessionState) : Type 0 where
  pub turns : List SessionTurn
  pub turned : List Interaction
  pub under : Option PendingRequest
  pub each : AreTurns plan config turns turned
  pub at : HasPending plan keys config under state
  pub goes_on : ContinuesAfterAll (items_of turns)
  pub gives : Gives (fed reading_start it.bytes) (items_of turns ++ items_under under) state.reading
  pub text : it.sent ++ waiting_in under state.outbox ≡ replies_text turns
  pub are : it.done ≡ turned ++ done_under under
  pub requests : capped state.requests ≡ capped (requests_in (items_of turns))

-- Its last item ended it: no request is under way, and what was done is what the turns did.
pub record IsClientOver (plan : KeyPlan) (config : Configuration) (it : Life) (state : SessionState)
    : Type 0 where
  pub turns : List SessionTurn
  pub each : AreTurns plan config turns it.done
  pub at : state.work ≡ Between
  pub ends : EndsWith line_too_long (items_of turns) ⊎ EndsWith quit (items_of turns)
  pub gives : Gives (fed reading_start it.bytes) (items_of turns) state.reading
  pub text : it.sent ++ state.outbox ≡ replies_text turns
  pub requests : capped state.requests ≡ capped (requests_in (items_of turns))

-- memory ran out after these items: as the next one was read; or that is a request, for which this
-- was done until it was dropped
pub data ShortAfter (plan : KeyPlan) (config : Configuration) (left : Reading)
    (last : List Interaction) : Type 0 where
  none_read : last ≡ [] → ShortAfter plan config left last
  request_cut : (it : Request) (to : Reading) → Emits left (item.Request it) to
      → IsRequestCutWithin plan config it last → ShortAfter plan config left last

-- Memory ran out for it: what was done is what the turns did, and then what was done for the
-- request that was dropped. Nothing of its reply went to the client or waits for it.
pub record IsClientShort (plan : KeyPlan) (config : Configuration) (it : Life)
    (state : SessionState) : Type 0 where
  pub turns : List SessionTurn
  pub turned : List Interaction
  pub left : Reading
  pub last : List Interaction
  pub each : AreTurns plan config turns turned
  pub at : state.work ≡ Between
  pub goes_on : ContinuesAfterAll (items_of turns)
  pub gives : Gives (fed reading_start it.bytes) (items_of turns) left
  pub cut : ShortAfter plan config left last
  pub text : it.sent ++ state.outbox ≡ replies_text turns
  pub are : it.done ≡ turned ++ last
  pub requests : capped state.requests ≡ capped (requests_in (items_of turns))

abbrev pub IsClientIn : ClientPhase → KeyPlan → Option KeysState → Configuration → Life
    → SessionState → Type 0
IsClientIn Open plan keys config it state = IsClientOpen plan keys config it state
IsClientIn Over plan keys config it state = IsClientOver plan config it state
IsClientIn Short plan keys config it state = IsClientShort plan config it state

-- this is a client's life so far
abbrev pub IsClient : Configuration → Life → ClientState → Type 0
IsClient config it one = IsClientIn one.phase one.plan one.keys config it one.session

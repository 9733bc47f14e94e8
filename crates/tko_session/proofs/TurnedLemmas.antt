-- What a client's turns gave so far, and the request that is under way.
use Rattle.std.proofs.Common.{◌≡◌, ℕ, ◌+◌, List, [], ◌∷◌, ◌++◌, Option, length, refl, sym, ap}
use Rattle.std.proofs.Common.{subst, ◌∙◌, append_assoc, append-nil, arith}
use Rattle.tko_text.specs.declared.item.Item.{Item}
use Rattle.tko_text.specs.declared.item.Item.TheVariants as item
use Rattle.tko_text.specs.Reading.{Emits, EmitsEach, Gives, Reading, fed, reading_start}
use Rattle.tko_pools.specs.Configs.{Configuration}
use Rattle.tko_bytes.specs.Numbers.{capped}
use Rattle.tko_reply.specs.Interactions.{Interaction, Recorded}
use Rattle.tko_reply.specs.TrailEvents.{Asked}
use Rattle.tko_keys.specs.KeysState.{KeysState}
use Rattle.tko_keys.specs.declared.plan.KeyPlan.{KeyPlan}
use Rattle.tko_session.specs.Clients.{AreTurns, Life, life, lived}
use Rattle.tko_session.specs.SessionState.{ContinuesAfterAll, SessionState, items_of, replies_text}
use Rattle.tko_session.specs.SessionState.{requests_in}
use Rattle.tko_session.specs.SoFar.{IsPendingAt, PendingRequest}
use Rattle.tko_session.specs.Turns.{IsTurnWithin, SessionTurn}
use Rattle.tko_session.specs.Working.{Work}

-- what a client's turns gave so far: these replies wait, this is left to be read, and after them
-- this
-- was done
pub record HasTurned (plan : KeyPlan) (config : Configuration) (it : Life) (front : List ℕ)
    (left : Reading) (requests : ℕ) (last : List Interaction) : Type 0 where
  pub turns : List SessionTurn
  pub turned : List Interaction
  pub each : AreTurns plan config turns turned
  pub goes_on : ContinuesAfterAll (items_of turns)
  pub gives : Gives (fed reading_start it.bytes) (items_of turns) left
  pub text : it.sent ++ front ≡ replies_text turns
  pub are : it.done ≡ turned ++ last
  pub counted : capped requests ≡ capped (requests_in (items_of turns))

-- this request is under way
pub record IsOn (plan : KeyPlan) (config : Configuration) (it : Life) (state : SessionState)
    (under : PendingRequest) : Type 0 where
  pub left : Reading
  pub base : HasTurned plan config it under.front left state.requests
      (Recorded (Asked under.request) ∷ under.done)
  pub emits : Emits left (item.Request under.request) state.reading
  pub begin : state.begin ≡ length under.front

pub record IsOnWith (plan : KeyPlan) (keys : Option KeysState) (config : Configuration) (it : Life)
    (state : SessionState) (at : Work) : Type 0 where
  pub under : PendingRequest
  pub on : IsOn plan config it state under
  pub far : IsPendingAt plan keys config under at state.targets state.outbox

-- a life, and what was done since
abbrev pub did : Life → List Interaction → Life
did it more = life it.bytes it.sent (it.done ++ more)

pub lived_did : (it : Life) (more : List Interaction) → lived it (life [] [] more) ≡ did it more
lived_did it more =
    ap (λ xs. life xs (it.sent ++ []) (it.done ++ more)) (append-nil it.bytes)
    ∙ ap (λ xs. life it.bytes xs (it.done ++ more)) (append-nil it.sent)

-- the last of some items
pub each_split : (from : Reading) (items : List Item) (last : Item) (to : Reading)
    → EmitsEach from (items ++ last ∷ []) to
    → (mid : Reading) × EmitsEach from items mid × Emits mid last to
each_split from [] last to (mid, emits, same) =
    (from, refl, subst (λ r. Emits from last r) (sym same) emits)
each_split from (one ∷ items) last to (next, emits, rest) =
    let later = each_split next items last to rest in
    (later.0, (next, emits, later.1), later.2)

-- one more turn at the end
pub turns_push : (plan : KeyPlan) (config : Configuration) (turns : List SessionTurn)
    (last : SessionTurn) (was more : List Interaction)
    → AreTurns plan config turns was → IsTurnWithin plan config last more
    → AreTurns plan config (turns ++ last ∷ []) (was ++ more)
turns_push plan config [] last was more none is =
    (more, [], is, refl, ap (λ ds. ds ++ more) none ∙ sym (append-nil more))
turns_push plan config (one ∷ turns) last was more (first, rest, turn, later, are) is = (
  first,
  rest ++ more,
  turn,
  turns_push plan config turns last rest more later is,
  ap (λ ds. ds ++ more) are ∙ append_assoc first rest more,
)

pub counted_more : (a b c n : ℕ) → capped b ≡ capped a → capped c ≡ capped (b + n)
    → capped c ≡ capped (a + n)
counted_more a b c n first second = omega arith

module _ {plan : KeyPlan} {config : Configuration} where
  pub more_turned : {it : Life} {front : List ℕ} {left : Reading} {requests : ℕ}
      {last : List Interaction} (more : List Interaction)
      → HasTurned plan config it front left requests last
      → HasTurned plan config (did it more) front left requests (last ++ more)
  more_turned {last = last} more base = record {
    turns = base.turns;
    turned = base.turned;
    each = base.each;
    goes_on = base.goes_on;
    gives = base.gives;
    text = base.text;
    are = ap (λ ds. ds ++ more) base.are ∙ append_assoc base.turned last more;
    counted = base.counted;
  }

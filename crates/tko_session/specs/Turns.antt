-- What becomes of one item: what is done for it, and the text that goes to the client.
use Rattle.std.specs.Prelude.{◌≡◌, ◌<◌, ℕ, Bool, true, false, List, [], ◌∷◌}
use Rattle.tko_text.specs.declared.fault.TextFault.{TextFault}
use Rattle.tko_text.specs.declared.item.Item.{Item}
use Rattle.tko_text.specs.declared.item.Item.TheVariants as item
use Rattle.tko_text.specs.declared.request.Request.{Request}
use Rattle.tko_text.specs.Requests.{fault_text}
use Rattle.tko_pools.specs.Configs.{Configuration}
use Rattle.tko_reply.specs.Answers.{Answers}
use Rattle.tko_reply.specs.Cuts.{IsAnswerCut}
use Rattle.tko_reply.specs.Interactions.{Interaction, Recorded}
use Rattle.tko_reply.specs.Replies.{RoutedKey}
use Rattle.tko_reply.specs.TrailEvents.{Asked}
use Rattle.tko_keys.specs.AtOnce.{AnswersAtOnce, IsCutAtOnce}
use Rattle.tko_keys.specs.declared.plan.KeyPlan.{KeyPlan}

-- an item, the keys that were routed for it, and the text of its reply
pub record SessionTurn : Type 0 where
  pub item : Item
  pub routed : List RoutedKey
  pub text : List ℕ

abbrev pub is_request : Item → Bool
is_request (item.Request request) = true
is_request (item.Fault fault) = false

-- a fault gives its text, and nothing is done; a request is recorded, and then answered
pub data IsSessionTurn (config : Configuration) (turn : SessionTurn) (done : List Interaction)
    : Type 0 where
  refused : (fault : TextFault) → turn.item ≡ item.Fault fault → turn.routed ≡ []
      → turn.text ≡ fault_text fault → done ≡ [] → IsSessionTurn config turn done
  answered : (request : Request) (then : List Interaction) → turn.item ≡ item.Request request
      → done ≡ Recorded (Asked request) ∷ then
      → Answers config request turn.routed turn.text then
      → IsSessionTurn config turn done

-- a request was cut short: memory ran out while it was recorded, or in its answer
pub data IsRequestCut (config : Configuration) (request : Request) (done : List Interaction)
    : Type 0 where
  unrecorded : done ≡ [] → IsRequestCut config request done
  recorded : (then : List Interaction) → done ≡ Recorded (Asked request) ∷ then
      → IsAnswerCut config request then → IsRequestCut config request done

-- what becomes of an item where the keys of a request may be sent by this plan: they are asked for
-- one after another, as above; or more of them at a time
pub data IsTurnWithin (plan : KeyPlan) (config : Configuration) (turn : SessionTurn)
    (done : List Interaction) : Type 0 where
  in_turn : IsSessionTurn config turn done → IsTurnWithin plan config turn done
  at_once : (request : Request) (then : List Interaction) → 1 < plan.most
      → turn.item ≡ item.Request request → done ≡ Recorded (Asked request) ∷ then
      → AnswersAtOnce plan config request turn.routed turn.text then
      → IsTurnWithin plan config turn done

-- memory ran out for a request there
pub data IsRequestCutWithin (plan : KeyPlan) (config : Configuration) (request : Request)
    (done : List Interaction) : Type 0 where
  cut_in_turn : IsRequestCut config request done → IsRequestCutWithin plan config request done
  cut_at_once : (then : List Interaction) → 1 < plan.most → done ≡ Recorded (Asked request) ∷ then
      → IsCutAtOnce plan config request then → IsRequestCutWithin plan config request done

-- What was done for a request at which memory ran out.
use Rattle.std.specs.Prelude.{◌≡◌, ℕ, Bool, List, [], ◌∷◌, ◌++◌, All, Err, length, map}
use Rattle.tko_model.specs.Records.{HealthItem, Gains}
use Rattle.tko_text.specs.declared.request.Request.{Request}
use Rattle.tko_text.specs.declared.request.Request.TheVariants.{StatsTko}
use Rattle.tko_pools.specs.Configs.{Configuration, targets_of}
use Rattle.tko_route.specs.Calls.{RoutedCall, Told, came}
use Rattle.tko_route.specs.Routing.{FindsUp, GoesOn}
use Rattle.tko_route.specs.Trail.{IsCutTrail, IsTrail, MakesTrail, next_target}
use Rattle.tko_route.specs.declared.attempt.Attempt.{Attempt}
use Rattle.tko_route.specs.declared.routing.Stage.{Stage}
use Rattle.tko_route.specs.declared.routing.Stage.TheVariants as stage
use Rattle.tko_reply.specs.Answering.{Extends}
use Rattle.tko_reply.specs.Answers.{AreKeysRouted, form_in, request_for, request_keys}
use Rattle.tko_reply.specs.Asking.{front_of}
use Rattle.tko_reply.specs.Interactions.{Interaction, Made, Noted, health_calls}
use Rattle.tko_reply.specs.Replies.{HasValues, RoutedKey, keys_in}
use Rattle.tko_reply.specs.Status.{LookedServer, addresses_in, looks_from}
use Rattle.tko_reply.specs.declared.asking.ReplyPart.{ReplyPart}

-- the first servers were looked up once each, in number order, and no other
pub record LooksSome {H : Type 0} (steps : H → HealthItem → H → Type 0)
    (addresses : List (List ℕ)) (old new : H) : Type 0 where
  pub servers : List LookedServer
  pub unlooked : List (List ℕ)
  pub parts : addresses ≡ addresses_in servers ++ unlooked
  pub looks : Gains steps old (looks_from 0 servers) new

-- memory ran out where a request began, after these calls: nothing was asked; or the first servers
-- were looked up for their status
pub data IsBeginCut (config : Configuration) (request : Request) (calls : List RoutedCall)
    : Type 0 where
  nothing : calls ≡ [] → IsBeginCut config request calls
  in_status : (servers : List LookedServer) (unlooked : List (List ℕ)) → request ≡ StatsTko
      → config.addresses ≡ addresses_in servers ++ unlooked
      → calls ≡ map Told (looks_from 0 servers) → IsBeginCut config request calls

-- these calls ended the routing of a key over these targets with this trail
pub record EndsBy (targets : List ℕ) (form : ℕ → Request) (calls : List RoutedCall)
    (trail : List Attempt) : Type 0 where
  pub tried : IsTrail targets trail
  pub make : MakesTrail form calls trail

-- the trail with which a routing ended
abbrev pub IsEndOf : Stage → List Attempt → Type 0
IsEndOf (stage.Away clear awaited) trail = ⊥
IsEndOf (stage.Done tried) trail = trail ≡ tried

-- memory ran out where the request of a key began, after these calls and attempts: none; or all
-- that there are, so that the reply is lost
pub data KeyLost (config : Configuration) (request : Request) (calls : List RoutedCall)
    (trail : List Attempt) : Type 0 where
  untried : calls ≡ [] → trail ≡ [] → KeyLost config request calls trail
  tried : ((key : List ℕ) → request_keys request ≡ key ∷ []
      → EndsBy (targets_of config key) (form_in config request) calls trail)
      → KeyLost config request calls trail

-- memory ran out for a key, which is dropped: the outbox still begins with the replies that stay,
-- health was asked or told more, and with that this is reached
pub record IsKeyDropped {H : Type 0} (steps : H → HealthItem → H → Type 0) (share : ReplyPart)
    (old : H × List ℕ) (reached : List RoutedCall → Type 0) (new : H × List ℕ) : Type 0 where
  pub kept : Extends (front_of share old.1) new.1
  pub lost : GoesOn steps old.0 reached new.0

-- memory ran out at this key of a request: after its attempts, so that nothing but their marks was
-- noted; or at the send to the next target, after attempts at the first ones, none of them answered
pub data IsKeyCut (config : Configuration) (request : Request) (key : List ℕ)
    (done : List Interaction) : Type 0 where
  reply_lost : (trail : List Attempt) (calls : List RoutedCall)
      → IsTrail (targets_of config key) trail
      → MakesTrail (form_in config (request_for request key)) calls trail
      → done ≡ map Made calls ++ Noted trail ∷ []
      → IsKeyCut config request key done
  send_lost : (trail : List Attempt) (calls : List RoutedCall) (server : ℕ) (was_sent : Bool)
      → IsCutTrail (targets_of config key) trail
      → server ≡ next_target (targets_of config key) trail
      → FindsUp (form_in config (request_for request key)) calls trail server
      → done ≡ map Made calls
      ++ Made (came server (form_in config (request_for request key) (length trail))
      (Err (record { sent = was_sent }))) ∷ Noted trail ∷ []
      → IsKeyCut config request key done

-- memory ran out before any of these keys was tried, or at the first of them
pub data IsFirstCut (config : Configuration) (request : Request) (keys : List (List ℕ))
    (done : List Interaction) : Type 0 where
  untried : done ≡ [] → IsFirstCut config request keys done
  at_first : (key : List ℕ) (rest : List (List ℕ)) → keys ≡ key ∷ rest
      → IsKeyCut config request key done → IsFirstCut config request keys done

-- memory ran out in the answer to a request that was recorded: some keys were routed, in order, and
-- each got a list of values; or the first servers were looked up for their status
pub data IsAnswerCut (config : Configuration) (request : Request) (done : List Interaction)
    : Type 0 where
  at_keys : (routed : List RoutedKey) (left : List (List ℕ)) (front last : List Interaction)
      → request_keys request ≡ keys_in routed ++ left → AreKeysRouted config request routed front
      → All HasValues routed → IsFirstCut config request left last → done ≡ front ++ last
      → IsAnswerCut config request done
  in_status : (servers : List LookedServer) (unlooked : List (List ℕ)) → request ≡ StatsTko
      → config.addresses ≡ addresses_in servers ++ unlooked
      → done ≡ health_calls (looks_from 0 servers) → IsAnswerCut config request done

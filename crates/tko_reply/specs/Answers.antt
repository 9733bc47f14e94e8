-- What becomes of one request: what is done for it, and the text that goes to the client.
use Rattle.std.specs.Prelude.{◌≡◌, ◌<◌, ℕ, List, [], ◌∷◌, ◌++◌, length, map}
use Rattle.tko_model.specs.Records.{HealthItem}
use Rattle.tko_text.specs.declared.request.Request.{Request}
use Rattle.tko_text.specs.declared.request.Request.TheVariants.{Get, Gets, Store, Cas, Delete, Incr}
use Rattle.tko_text.specs.declared.request.Request.TheVariants.{Decr, Touch, Version, Quit}
use Rattle.tko_text.specs.declared.request.Request.TheVariants.{StatsTko}
use Rattle.tko_text.specs.SentRequests.{without_noreply}
use Rattle.tko_pools.specs.Configs.{Configuration, targets_of}
use Rattle.tko_route.specs.Calls.{RoutedCall}
use Rattle.tko_route.specs.Trail.{IsTrail, MakesTrail, form_at}
use Rattle.tko_reply.specs.declared.parts.Parts.{Parts}
use Rattle.tko_reply.specs.Interactions.{Interaction, Made, Recorded, health_calls}
use Rattle.tko_reply.specs.Replies.{IsReply, RoutedKey, reply_written, version_text}
use Rattle.tko_reply.specs.Status.{IsStatusText}
use Rattle.tko_reply.specs.TrailEvents.{Tried}

-- the health, the links and the probers have the servers of the configuration
pub record Reaches {H L T C : Type 0} (servers : H → ℕ) (linked : L → ℕ)
    (parts : Parts H L T C) : Type 0 where
  pub health : servers parts.backend.health ≡ length parts.config.addresses
  pub links : linked parts.backend.links ≡ length parts.config.addresses
  pub probers : length parts.backend.probers.slots ≡ length parts.config.addresses

-- the keys of a request, each of which is routed; a request without a key is not routed
abbrev pub request_keys : Request → List (List ℕ)
request_keys (Get keys) = keys
request_keys (Gets keys) = keys
request_keys (Store verb entry noreply) = entry.key ∷ []
request_keys (Cas entry unique noreply) = entry.key ∷ []
request_keys (Delete key noreply) = key ∷ []
request_keys (Incr key amount noreply) = key ∷ []
request_keys (Decr key amount noreply) = key ∷ []
request_keys (Touch key expiry noreply) = key ∷ []
request_keys Version = []
request_keys Quit = []
request_keys StatsTko = []

-- a request that is routed, and that the proxy does not answer itself
abbrev pub IsKeyed : Request → Type 0
IsKeyed Version = ⊥
IsKeyed Quit = ⊥
IsKeyed StatsTko = ⊥
IsKeyed _ = Unit {0}

-- the request that is routed for a key: of several keys each is asked for by itself
abbrev pub request_for : Request → List ℕ → Request
request_for (Get keys) key = Get (key ∷ [])
request_for (Gets keys) key = Gets (key ∷ [])
request_for request key = request

-- a request in the form of each place of its list of targets
abbrev pub form_in : Configuration → Request → ℕ → Request
form_in config request = form_at config.failover_exptime (without_noreply request)

-- a request without a key is answered by the proxy itself: the text, and what health was asked
abbrev pub AnswersItself : List (List ℕ) → Request → List ℕ → List HealthItem → Type 0
AnswersItself addresses Version text looks = (text ≡ version_text) × (looks ≡ [])
AnswersItself addresses Quit text looks = (text ≡ []) × (looks ≡ [])
AnswersItself addresses StatsTko text looks = IsStatusText addresses text looks
AnswersItself addresses _ text looks = ⊥

-- these calls gave a key of a request this trail over the targets of the key, and then the trail
-- was recorded
pub record IsKeyRouted (config : Configuration) (request : Request) (routed : RoutedKey)
    (done : List Interaction) : Type 0 where
  pub tried : IsTrail (targets_of config routed.key) routed.trail
  pub calls : List RoutedCall
  pub make : MakesTrail (form_in config (request_for request routed.key)) calls routed.trail
  pub are : done ≡ map Made calls ++ Recorded (Tried routed.trail) ∷ []

-- keys of a request were routed, one after another
abbrev pub AreKeysRouted : Configuration → Request → List RoutedKey → List Interaction → Type 0
AreKeysRouted config request [] done = done ≡ []
AreKeysRouted config request (one ∷ routed) done = (first rest : List Interaction)
    × IsKeyRouted config request one first × AreKeysRouted config request routed rest
    × (done ≡ first ++ rest)

-- these keys of a request were routed, and gave this text
pub record AnswersByKeys (config : Configuration) (request : Request) (routed : List RoutedKey)
    (text : List ℕ) (done : List Interaction) : Type 0 where
  pub some : 0 < length (request_keys request)
  pub each : AreKeysRouted config request routed done
  pub reply : List ℕ
  pub is_reply : IsReply 1 (request_keys request) routed reply
  pub is_written : text ≡ reply_written request reply

-- what is done for a request once it was recorded: the keys that are routed for it, and the text
-- that answers it
pub data Answers (config : Configuration) (request : Request) (routed : List RoutedKey)
    (text : List ℕ) (done : List Interaction) : Type 0 where
  itself : (looks : List HealthItem) → routed ≡ []
      → AnswersItself config.addresses request text looks → done ≡ health_calls looks
      → Answers config request routed text done
  by_keys : AnswersByKeys config request routed text done
      → Answers config request routed text done

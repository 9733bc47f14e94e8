-- A send that is out for a key.
use Rattle.std.specs.Prelude.{◌≡◌, ◌↔◌, ℕ, List, ◌∷◌, ◌++◌, IsSome, Ok, Option, length}
use Rattle.tko_model.specs.declared.mark.Reply.{Reply}
use Rattle.tko_text.specs.declared.request.Request.{Request}
use Rattle.tko_pools.specs.Configs.{AreServers, Configuration}
use Rattle.tko_links.specs.declared.links.Outcome.{Outcome}
use Rattle.tko_route.specs.Calls.{RoutedCall, came}
use Rattle.tko_route.specs.Routing.{FindsUp, IsAwaited}
use Rattle.tko_route.specs.Trail.{form_at, op_of}
use Rattle.tko_route.specs.Underway.{Awaited}
use Rattle.tko_reply.specs.Standing.{SentKey}

-- a send is out to one of these targets, which are servers
pub record IsOutTo (config : Configuration) (targets : List ℕ) (awaited : Awaited) : Type 0 where
  pub within : AreServers config targets
  pub awaits : IsAwaited targets awaited

-- a send is out so, and what came of it was recorded, with a reply exactly if the table of outcomes
-- names a call
pub record IsOutAndRecorded (config : Configuration) (targets : List ℕ) (awaited : Awaited)
    (outcome : Outcome) (reply : Option Reply) : Type 0 where
  pub out : IsOutTo config targets awaited
  pub replied : IsSome reply ↔ IsSome (op_of outcome)

-- a send is out so; what is sent is some request in the form of its place, and calls of its key
-- found the server up
pub record IsSent (config : Configuration) (targets : List ℕ) (it : SentKey) : Type 0 where
  pub out : IsOutTo config targets it.awaited
  pub original : Request
  pub calls : List RoutedCall
  pub form : it.key.request
      ≡ form_at config.failover_exptime original (length it.awaited.attempts)
  pub found : FindsUp (form_at config.failover_exptime original) calls
      it.awaited.attempts it.awaited.server

-- what holds of a request and the calls of its key where the send came to this, whatever calls
-- stood before: the request is in the form of its place, and those calls found its server up
abbrev pub AfterSend : Configuration → SentKey → Outcome
    → (Request → (List RoutedCall → List RoutedCall) → Type 0) → Type 0
AfterSend config it outcome Holds = (original : Request) (calls : List RoutedCall)
    → it.key.request ≡ form_at config.failover_exptime original (length it.awaited.attempts)
    → FindsUp (form_at config.failover_exptime original) calls
    it.awaited.attempts it.awaited.server
    → Holds original (λ more. calls ++ came it.awaited.server it.key.request (Ok outcome) ∷ more)

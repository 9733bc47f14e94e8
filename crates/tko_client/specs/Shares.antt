-- How much is done for a client at a time: its calls, and what they cost of its share of a turn.
use Rattle.std.specs.Prelude.{◌≡◌, ◌<◌, ℕ, ◌+◌, ◌-◌, ◌/◌, List, [], ◌∷◌, length}
use Rattle.tko_model.specs.Records.{Gains}
use Rattle.tko_pools.specs.Configs.{Configuration}
use Rattle.tko_reply.specs.Ghosts.{PartsGhosts}
use Rattle.tko_reply.specs.Interactions.{Interaction}
use Rattle.tko_reply.specs.declared.parts.Parts.{Parts}
use Rattle.tko_session.specs.Clients.{ClientState, life}
use Rattle.tko_session.specs.ManyClients.{ActsOn}
use Rattle.tko_session.specs.SessionState.{SessionState}

-- how much is done for a client at a time: calls that change no replies cost one each of it
abbrev pub client_share : ℕ
client_share = 256

-- so many bytes of replies cost as much as a call. It is less than a line of `stats tko` has, so
-- that the reply to that costs more than it has lines
abbrev pub reply_unit : ℕ
reply_unit = 12

-- what a call costs that left a session so: one, and as much again for each unit of the replies
-- that it added
abbrev pub call_cost : SessionState → SessionState → ℕ
call_cost old new = 1 + (length new.outbox - length old.outbox) / reply_unit

-- what was done in one call, and what it cost
pub record ClientCall : Type 0 where
  pub done : List Interaction
  pub cost : ℕ

-- each of these calls begins while something of this share is left
abbrev pub BeginWithin : ℕ → List ClientCall → Type 0
BeginWithin left [] = Unit {0}
BeginWithin left (call ∷ calls) = (0 < left) × BeginWithin (left - call.cost) calls

-- a client, and the parts that all share
abbrev pub ClientOver : Type 0 → Type 0 → Type 0 → Type 0
ClientOver H T C = ClientState × Parts H (List ℕ) T C

module _ {H T C : Type 0} (ghosts : PartsGhosts H (List ℕ) T C) where
  -- an act in which no bytes come or go
  abbrev pub ActsWithoutBytes : Configuration → ClientOver H T C → List Interaction
      → ClientOver H T C → Type 0
  ActsWithoutBytes config old done new = ActsOn ghosts config old (life [] [] done) new

  -- one call: an act in which no bytes come or go, or nothing at all
  pub data HasCalled (old new : ClientOver H T C) : Type 0 where
    rested : new ≡ old → HasCalled old new
    acted : (done : List Interaction) → ActsWithoutBytes old.1.config old done new
        → HasCalled old new

  -- such an act, and what the call cost
  pub record IsCallWithCost (config : Configuration) (old : ClientOver H T C) (call : ClientCall)
      (new : ClientOver H T C) : Type 0 where
    pub act : ActsWithoutBytes config old call.done new
    pub cost : call.cost ≡ call_cost old.0.session new.0.session

  -- calls, one after another, each of which begins while the client's share is not used up
  pub record HasGone (old new : ClientOver H T C) : Type 0 where
    pub calls : List ClientCall
    pub gains : Gains (IsCallWithCost old.1.config) old calls new
    pub share : BeginWithin client_share calls

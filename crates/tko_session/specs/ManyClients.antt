-- Many clients on one thread: what each act of a worker does to its client and to the parts that
-- all share, and what a client's own acts are.
use Rattle.std.specs.Prelude.{◌≡◌, ℕ, List, [], ◌∷◌, ◌++◌, All, Some, flat_map, map}
use Rattle.tko_model.specs.Records.{Gains}
use Rattle.tko_pools.specs.Configs.{Configuration}
use Rattle.tko_roster.specs.Rosters.{Acted, Acting, Admitted, Released, RosterAct, RosterState, session_at}
use Rattle.tko_roster.specs.Tagged.{Tagged, own}
use Rattle.tko_reply.specs.Ghosts.{PartsGhosts}
use Rattle.tko_reply.specs.Interactions.{Interaction, Interacts, Performs}
use Rattle.tko_reply.specs.declared.parts.Parts.{Parts}
use Rattle.tko_keys.specs.declared.plan.KeyPlan.{KeyPlan}
use Rattle.tko_session.specs.Acts.{IsAct}
use Rattle.tko_session.specs.Clients.{ClientState, IsClient, Life, life_of, new_client}

-- what a client's act does to it and to the parts
abbrev pub ActsOn : {H L T C : Type 0} → PartsGhosts H L T C → Configuration
    → Acting ClientState (Parts H L T C) Life
ActsOn ghosts config old adds new = IsAct config old.0 adds new.0
    × Gains (Interacts ghosts) old.1 adds.done new.1

-- a client that comes is a new one, of whose requests keys are sent by this plan
abbrev pub IsNewIn : KeyPlan → RosterAct ClientState Life → Type 0
IsNewIn plan (Admitted one) = one ≡ new_client plan
IsNewIn plan (Acted adds) = Unit {0}
IsNewIn plan (Released one) = Unit {0}

abbrev pub AreNew : KeyPlan → List (Tagged (RosterAct ClientState Life)) → Type 0
AreNew plan acts = All (λ it. IsNewIn plan it.item) acts

-- what was done in an act
abbrev pub done_by : RosterAct ClientState Life → List Interaction
done_by (Admitted one) = []
done_by (Acted adds) = adds.done
done_by (Released one) = []

-- what was done in all of them, in their order
abbrev pub done_in : List (Tagged (RosterAct ClientState Life)) → List Interaction
done_in acts = flat_map (λ it. done_by it.item) acts

-- The last acts of a number are those of the client that has it, since it came: they are its life.
pub record IsLifeOf (plan : KeyPlan) (config : Configuration)
    (acts : List (RosterAct ClientState Life)) (now : ClientState) : Type 0 where
  pub before : List (RosterAct ClientState Life)
  pub lives : List Life
  pub are : acts ≡ before ++ Admitted (new_client plan) ∷ map Acted lives
  pub is : IsClient config (life_of lives) now

-- All that was done for all clients was done to the parts, in the order of the acts; and each
-- client has a life of its own acts, whatever was done for others between.
pub record AreServed {H L T C : Type 0} (ghosts : PartsGhosts H L T C) (plan : KeyPlan)
    (old : Parts H L T C) (acts : List (Tagged (RosterAct ClientState Life)))
    (new : RosterState ClientState (Parts H L T C)) : Type 0 where
  pub performs : Performs ghosts (λ config done. done ≡ done_in acts) old new.parts
  pub each : (number : ℕ) (now : ClientState) → session_at new.slots number ≡ Some now
      → IsLifeOf plan old.config (own number acts) now

-- What is done for a request, one interaction after another, and what each does to the parts.
use Rattle.std.specs.Prelude.{◌≡◌, ◌+◌, ℕ, List, [], ◌∷◌, map, sum_by}
use Rattle.tko_model.specs.Records.{Gains, HealthItem}
use Rattle.tko_pools.specs.Configs.{Configuration}
use Rattle.tko_route.specs.Calls.{Came, IsExchange, RoutedCall, Told, sends_of}
use Rattle.tko_route.specs.declared.attempt.Attempt.{Attempt}
use Rattle.tko_prober.specs.Probers.{noted}
use Rattle.tko_reply.specs.Ghosts.{PartsGhosts, upstream_of}
use Rattle.tko_reply.specs.TrailEvents.{Asked, TrailEvent, Tried}
use Rattle.tko_reply.specs.declared.parts.Parts.{Parts}

-- health was told or asked something, or this came of an exchange; a request or the trail of a key
-- was recorded, the marks of its attempts with it; or only the marks of these attempts were noted
pub data Interaction : Type 0 where
  Made : (call : RoutedCall) → Interaction
  Recorded : (event : TrailEvent) → Interaction
  Noted : (trail : List Attempt) → Interaction

-- health was told or asked this
abbrev pub health_calls : List HealthItem → List Interaction
health_calls items = map Made (map Told items)

-- the marks of these attempts are noted, if there are any
abbrev pub marks_of : List Attempt → List Interaction
marks_of [] = []
marks_of (one ∷ attempts) = Noted (one ∷ attempts) ∷ []

-- how often an interaction sent to a server
abbrev pub sends_by : ℕ → Interaction → ℕ
sends_by server (Made call) = sends_of server call
sends_by server _ = 0

-- the same parts with another health
abbrev pub with_health : {H L T C : Type 0} → H → Parts H L T C → Parts H L T C
with_health health parts = record parts {
  backend = record parts.backend { health = health };
}

-- the same parts with other links
abbrev pub with_links : {H L T C : Type 0} → L → Parts H L T C → Parts H L T C
with_links links parts = record parts { backend = record parts.backend { links = links } }

-- the servers that the attempts marked are going to be probed
abbrev pub with_noted : {H L T C : Type 0} → List Attempt → Parts H L T C → Parts H L T C
with_noted trail old = record old {
  backend = record old.backend { probers = noted trail old.backend.probers };
}

-- the same of the attempts of a key that ended
abbrev pub with_marks : {H L T C : Type 0} → TrailEvent → Parts H L T C → Parts H L T C
with_marks (Asked request) old = old
with_marks (Tried trail) old = with_noted trail old

-- what an interaction does to the parts
abbrev pub Interacts : {H L T C : Type 0} → PartsGhosts H L T C → Parts H L T C → Interaction
    → Parts H L T C → Type 0
Interacts ghosts old (Made (Told item)) new =
    ghosts.backend.steps old.backend.health item new.backend.health
    × (new ≡ with_health new.backend.health old)
Interacts ghosts old (Made (Came it)) new =
    IsExchange (upstream_of ghosts) old.backend.links it new.backend.links
    × ((server : ℕ) → ghosts.backend.probed new.backend.links server
    ≡ ghosts.backend.probed old.backend.links server)
    × (new ≡ with_links new.backend.links old)
Interacts ghosts old (Recorded event) new = ghosts.records old.trails event new.trails
    × (new ≡ record (with_marks event old) { trails = new.trails })
Interacts ghosts old (Noted trail) new = new ≡ with_noted trail old

-- interactions of which this holds led from the one to the other: each server's count of sends rose
-- by the sends among them, and no count of probes changed
pub record Performs {H L T C : Type 0} (ghosts : PartsGhosts H L T C)
    (Holds : Configuration → List Interaction → Type 0) (old new : Parts H L T C) : Type 0 where
  pub done : List Interaction
  pub is : Holds old.config done
  pub gains : Gains (Interacts ghosts) old done new
  pub sends : (server : ℕ) → ghosts.backend.sent new.backend.links server
      ≡ ghosts.backend.sent old.backend.links server + sum_by (sends_by server) done
  pub probes : (server : ℕ) → ghosts.backend.probed new.backend.links server
      ≡ ghosts.backend.probed old.backend.links server

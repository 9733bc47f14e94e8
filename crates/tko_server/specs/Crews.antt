-- The workers of a server.
use Rattle.tko_server.specs.declared.crew.Crew.{Crew}
use Rattle.tko_server.specs.declared.crew.Crew.TheVariants.{Blocking, Events}

-- the members of a crew are so: those that serve one client after another, or the event-driven ones
abbrev pub IsCrewOf : {B E : Type 0} → Crew B E → (B → Type 0) → (E → Type 0) → Type 0
IsCrewOf (Blocking members way) blocking events = blocking members
IsCrewOf (Events members way) blocking events = events members

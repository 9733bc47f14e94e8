-- What a session's trails object records.
use Rattle.std.specs.Prelude.{◌≡◌, List, [], ◌∷◌, ◌++◌}
use Rattle.tko_route.specs.declared.attempt.Attempt.{Attempt}
use Rattle.tko_text.specs.declared.request.Request.{Request}

-- an item that is no fault, and the trail of a routed request
pub data TrailEvent : Type 0 where
  Asked : Request → TrailEvent
  Tried : List Attempt → TrailEvent

-- the trails that are kept: each one at the end, in order
abbrev pub Keeps : List (List Attempt) → TrailEvent → List (List Attempt) → Type 0
Keeps old (Asked request) new = new ≡ old
Keeps old (Tried trail) new = new ≡ old ++ trail ∷ []

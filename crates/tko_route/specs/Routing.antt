-- The routing of a request as a value: what it holds between two calls, and which calls it adds. An
-- attempt at a server that is up has two halves: its look-up, and what came of the send with the
-- call that records it. The other calls of the servers' health may stand between the halves, so
-- each half is told over whatever calls of the request stood before.
use Rattle.std.specs.Prelude.{◌≡◌, ◌↔◌, ℕ, ◌<◌, ◌≤◌, ◌-◌, ◌⊎◌, List, [], ◌∷◌, ◌++◌}
use Rattle.std.specs.Prelude.{IsSome, Ok, Option, length, map, take}
use Rattle.tko_model.specs.declared.mark.Reply.{Reply}
use Rattle.tko_model.specs.declared.mark.Reply.TheVariants as reply
use Rattle.tko_model.specs.Records.{Gains, HealthItem}
use Rattle.tko_text.specs.declared.request.Request.{Request}
use Rattle.tko_text.specs.SentRequests.{without_noreply}
use Rattle.tko_links.specs.declared.links.Outcome.{Outcome}
use Rattle.tko_route.specs.Calls.{RoutedCall, Told, came, look_up}
use Rattle.tko_route.specs.declared.attempt.Attempt.{Attempt}
use Rattle.tko_route.specs.declared.routing.Stage.{Stage}
use Rattle.tko_route.specs.declared.routing.Stage.TheVariants as stage
use Rattle.tko_route.specs.Trail.{IsCutTrail, IsTrail, LastAnswered, MakesTrail, NoneAnswered, form_at, next_target, op_of, record_of, server_of}
use Rattle.tko_route.specs.Underway.{Awaited}

-- the attempts are at targets in order, and none but the last was answered
pub record IsConcluded (targets : List ℕ) (trail : List Attempt) : Type 0 where
  pub servers : map server_of trail ≡ take (length trail) targets
  pub answers : NoneAnswered trail ⊎ LastAnswered trail

-- the request was sent to the target after those of the attempts, of which none was answered
pub record IsAwaited (targets : List ℕ) (awaited : Awaited) : Type 0 where
  pub tried : IsCutTrail targets awaited.attempts
  pub room : length targets ≤ awaited.room
  pub server : awaited.server ≡ next_target targets awaited.attempts

-- the request was sent so, and what came of it was recorded, with a reply exactly if the table of
-- outcomes names a call
pub record IsAwaitedAndRecorded (targets : List ℕ) (it : Awaited) (outcome : Outcome)
    (reply : Option Reply) : Type 0 where
  pub awaited : IsAwaited targets it
  pub replied : IsSome reply ↔ IsSome (op_of outcome)

-- attempts at targets in order, of which none was answered
pub record IsTried (targets : List ℕ) (trail : List Attempt) : Type 0 where
  pub servers : map server_of trail ≡ take (length trail) targets
  pub unanswered : NoneAnswered trail

-- none of these attempts at targets in order was answered, and there is room for one at each target
pub record MayTryOn (targets : List ℕ) (trail : List Attempt) (capacity : ℕ) : Type 0 where
  pub room : length targets ≤ capacity
  pub tried : IsTried targets trail

-- memory ran out before a routing began: there are targets, health was asked nothing, and the
-- request has lost its `noreply`
pub record IsUnbegun {H : Type 0} (targets : List ℕ) (old new : H × Request) : Type 0 where
  pub some : 0 < length targets
  pub health : new.0 ≡ old.0
  pub request : new.1 ≡ without_noreply old.1

-- these calls made a trail, and then found this server up
pub record FindsUp (form : ℕ → Request) (calls : List RoutedCall) (trail : List Attempt)
    (server : ℕ) : Type 0 where
  pub before : List RoutedCall
  pub make : MakesTrail form before trail
  pub count : ℕ
  pub is : calls ≡ before ++ look_up server (reply.Up count) ∷ []

-- health was asked or told more, and with that this is reached
pub record GoesOn {H : Type 0} (steps : H → HealthItem → H → Type 0) (old : H)
    (reached : List RoutedCall → Type 0) (new : H) : Type 0 where
  pub items : List HealthItem
  pub gains : Gains steps old items new
  pub is : reached (map Told items)

-- what came of a send that was out, with the request in the form of its place
abbrev pub came_of : (ℕ → Request) → Awaited → Outcome → RoutedCall
came_of form awaited outcome =
    came awaited.server (form (length awaited.attempts)) (Ok outcome)

-- the call that recorded what came of a send that was out, with its reply, if the table of outcomes
-- names one
abbrev pub told_of : Awaited → Outcome → Option Reply → List RoutedCall
told_of awaited outcome reply = map Told (record_of awaited.server (op_of outcome) reply)

-- a request that had the form of one place has that of another
abbrev pub IsBrought : ℕ → Request × ℕ → Request × ℕ → Type 0
IsBrought exptime old new = (original : Request)
    → old.0 ≡ form_at exptime original old.1 → new.0 ≡ form_at exptime original new.1

-- how far a routing came by these calls: the next target was found up, and the permission names it;
-- or a target answered, or all were tried
abbrev pub Reached : List ℕ → (ℕ → Request) → List RoutedCall → Stage → Type 0
Reached targets form calls (stage.Away clear awaited) =
    IsAwaited targets awaited × (clear ≡ awaited.server)
    × FindsUp form calls awaited.attempts awaited.server
Reached targets form calls (stage.Done trail) = IsTrail targets trail × MakesTrail form calls trail

-- how many attempts there are
abbrev pub tries : Stage → ℕ
tries (stage.Away clear awaited) = length awaited.attempts
tries (stage.Done trail) = length trail

-- the place of the target that was looked at last
abbrev pub last_place : Stage → ℕ
last_place (stage.Away clear awaited) = length awaited.attempts
last_place (stage.Done trail) = length trail - 1

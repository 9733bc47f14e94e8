use Rattle.std.proofs.Common.{◌≡◌, ◌-◌, ◌≤◌, ◌++◌, ℕ, List, length, vec_capacity}
use Rattle.tko_text.specs.declared.request.Request.{Request}
use Rattle.tko_route.specs.Calls.{RoutedCall}
use Rattle.tko_route.specs.Routing.{GoesOn, IsTried}
use Rattle.tko_route.specs.Trail.{MakesTrail, form_at}
use Rattle.tko_route.proofs.routing.look_on.Given as goal

abbrev pub invariant-loop-attempts : goal.invariant-loop-attempts
invariant-loop-attempts g l =
    GoesOn g.H.Health.steps l.fn.health (λ more. (form : ℕ → Request) (calls : List RoutedCall) → MakesTrail form calls l.fn.attempts.items
    → MakesTrail form (calls ++ more) l.attempts.items) l.health
    × IsTried l.targets l.attempts.items
    × (length l.fn.attempts.items ≤ length l.attempts.items)
    × (length l.targets ≤ vec_capacity l.attempts)
    × (vec_capacity l.attempts ≡ vec_capacity l.fn.attempts)
    × (g.H.Health.servers l.health ≡ g.H.Health.servers l.fn.health)
    × ((original : Request) → l.fn.request ≡ form_at l.exptime original (length l.fn.attempts.items - 1)
    → l.request ≡ form_at l.exptime original (length l.attempts.items - 1))

abbrev pub decreases-loop-attempts : goal.decreases-loop-attempts
decreases-loop-attempts g l = length l.targets - length l.attempts.items

use Rattle.std.proofs.Common.{◌≡◌, ◌-◌, ◌+◌, ℕ, List, length}
use Rattle.tko_model.specs.Records.{Gains}
use Rattle.tko_text.specs.SentRequests.{without_noreply}
use Rattle.tko_route.specs.Calls.{DoesCall, RoutedCall, upstream}
use Rattle.tko_route.specs.Routing.{Reached, last_place, tries}
use Rattle.tko_route.specs.Trail.{form_at}
use Rattle.tko_route.proofs.failover.route.Given as goal

abbrev pub invariant-loop-stage : goal.invariant-loop-stage
invariant-loop-stage g l =
    ((calls : List RoutedCall) × Reached l.targets (form_at l.exptime (without_noreply l.fn.request)) calls l.stage
    × Gains (DoesCall (upstream g.H.Health g.L.Links)) (l.fn.health, l.fn.links) calls (l.health, l.links))
    × (g.H.Health.servers l.health ≡ g.H.Health.servers l.fn.health)
    × (g.L.Links.servers l.links ≡ g.L.Links.servers l.fn.links)
    × (l.request ≡ form_at l.exptime (without_noreply l.fn.request) (last_place l.stage))
    × ((s : ℕ) → g.L.Links.probed l.links s ≡ g.L.Links.probed l.fn.links s)

abbrev pub decreases-loop-stage : goal.decreases-loop-stage
decreases-loop-stage g l = length l.targets + 1 - tries l.stage

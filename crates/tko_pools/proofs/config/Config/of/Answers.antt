use Rattle.std.proofs.Common.{sym, ◌∙◌}
use Rattle.serde_json.specs.View.{view}
use Rattle.tko_pools.proofs.RouteLemmas.{route-has-child}
use Rattle.tko_pools.proofs.config.Config.of.Goals as goal

pub over-requires-clause-some : goal.over-requires-clause-some
over-requires-clause-some c =
    route-has-child (view c.args.root.now) c.in-Some-2.route (sym c.in_ok-route.ensures ∙ c.in-Some-2.is)

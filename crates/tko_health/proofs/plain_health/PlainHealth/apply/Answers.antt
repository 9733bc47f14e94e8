use Rattle.std.proofs.Common.{ap, ◌∙◌, length}
use Rattle.tko_health.specs.Health.{OneThread}
use Rattle.tko_health.proofs.HealthLemmas.{length_after}
use Rattle.tko_health.proofs.plain_health.PlainHealth.apply.Goals as goal

pub returns-clause-servers : goal.returns-clause-servers
returns-clause-servers c =
    rw c.apply.ensures.state
    (length_after c.self.inside.plain c.self.inside.thread c.args.op c.args.server ∙ ap (λ (at : OneThread). length at.tracker.servers) c.self.view_is)

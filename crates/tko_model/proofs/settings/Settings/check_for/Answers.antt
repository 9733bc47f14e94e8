-- A list with a number that is too high has no bound, and groups that do not fit no settings in range.
use Rattle.tko_model.proofs.RangeLemmas.{are_within-all, has_groups-all}
use Rattle.tko_model.proofs.settings.Settings.check_for.Goals as goal
use Rattle.tko_model.specs.Settings.{with_servers}

pub returns-then-not-are_within-clause-ok : goal.returns-then-not-are_within-clause-ok
returns-then-not-are_within-clause-ok c = (
  λ e. absurd (cc e),
  λ is. cc (c.are_within.ensures, c.if-not-are_within.true, are_within-all 256 c.args.self.now.limits is.limits),
)

pub returns-then-not-has_groups_for-clause-ok : goal.returns-then-not-has_groups_for-clause-ok
returns-then-not-has_groups_for-clause-ok c = (
  λ e. absurd (cc e),
  λ is. cc (c.has_groups_for.ensures, c.if-not-has_groups_for.true, has_groups-all c.args.layout (with_servers c.args.servers c.args.self.now) is),
)

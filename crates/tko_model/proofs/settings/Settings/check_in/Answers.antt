-- The settings with their own number of servers are the settings.
use Rattle.std.proofs.Common.{ap}
use Rattle.tko_model.proofs.settings.Settings.check_in.Goals as goal
use Rattle.tko_model.specs.Settings.{Settings}

pub returns-clause-err : goal.returns-clause-err
returns-clause-err c =
    let servers = ap (λ (it : Settings). it.servers) c.self.view_is in
    rw servers at c.check_for.ensures.err

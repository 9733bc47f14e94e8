use Rattle.std.proofs.Common.{sym}
use Rattle.tko_tracker.proofs.PassLemmas.{owns-past}
use Rattle.tko_tracker.proofs.pass.Pass.owns.Goals as goal

pub returns-else-server-lt-SERVER_END : goal.returns-else-server-lt-SERVER_END
returns-else-server-lt-SERVER_END c =
    let fields = c.self.inside in
    owns-past fields.number fields.owned.words fields.seat _ c.args.server fields.owned.count c.self.invariant
    (sym c.self.view_is) c.if-server-lt-SERVER_END.false

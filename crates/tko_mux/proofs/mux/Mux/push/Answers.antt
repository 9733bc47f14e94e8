use Rattle.std.proofs.Common.{rules}
use Rattle.tko_mux.proofs.MuxLemmas.{sent_linked}
use Rattle.tko_mux.proofs.mux.Mux.push.Goals as goal

pub returns-clause-linked : goal.returns-clause-linked
returns-clause-linked g c =
    sent_linked g.S.Asking.awaited g.S.Asking.asks_for _ c.args.self.now c.args.number
    c.server-server.result c.args.due c.index_mut.result.now c.push_for.new.line
    c.push_for.result c.self.view_is (search rules) c.index_mut.ensures.value
    (search rules) c.push_for.ensures.pushed

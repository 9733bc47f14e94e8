use Rattle.std.proofs.Common.{rules}
use Rattle.tko_mux.proofs.ReadLemmas.{probe_ends}
use Rattle.tko_mux.proofs.mux.Mux.probe.Goals as goal

pub returns-clause-linked : goal.returns-clause-linked
returns-clause-linked g c =
    probe_ends g.S.Asking.awaited _ c.args.self.now c.server.result c.self.inside.limit c.args.due
    c.index_mut-line.result.now c.push.new.self c.push.result c.self.view_is (search rules)
    c.index_mut-line.ensures.value c.requires.linked (search rules) (search rules)

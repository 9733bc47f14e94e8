use Rattle.std.proofs.Common.{rules}
use Rattle.tko_mux.proofs.MuxLemmas.{ready_as}
use Rattle.tko_mux.proofs.ReadLemmas.{line_linked}
use Rattle.tko_mux.proofs.LeaveLemmas.{left_free, left_told, none_leave_now, none_left}
use Rattle.tko_mux.proofs.mux.Mux.leave.Goals as goal

pub deliver-requires-clause-free : goal.deliver-requires-clause-free
deliver-requires-clause-free g c =
    left_free g.S.Asking.awaited _ c.args.self.now c.args.server c.in-Some.by c.in-Some.fate
    c.index_mut.result.now c.leave.new.self c.leave.result c.self.view_is (search rules)
    c.index_mut.ensures.value c.requires.order.linked c.leave.ensures (search rules)

pub returns-in-Some-clause-left : goal.returns-in-Some-clause-left
returns-in-Some-clause-left g c =
    left_told g.S.Asking.acts g.S.Asking.awaited g.S.Asking.asks_for _ c.args.self.now
    c.args.server c.args.due c.index_mut.result.now c.leave.new.self c.in-Some.by
    c.in-Some.fate c.leave.result c.deliver.result c.deliver.new.self c.self.view_is
    (search rules) c.index_mut.ensures.value c.leave.ensures (search rules)
    c.deliver.ensures.delivered

pub returns-in-None-clause-order : goal.returns-in-None-clause-order
returns-in-None-clause-order g c = record {
  ready = ready_as (λ parts client. g.S.Asking.ready parts client.session) _ c.args.self.now
      c.self.view_is c.requires.order.ready;
  linked = line_linked g.S.Asking.awaited _ c.args.self.now c.args.server c.index_mut.result.now
      c.leave.new.self c.self.view_is (search rules) c.index_mut.ensures.value
      c.requires.order.linked
      (none_left c.index_mut.result.now c.leave.new.self c.leave.result c.leave.ensures
      c.in-None.is);
}

pub returns-in-None-clause-none : goal.returns-in-None-clause-none
returns-in-None-clause-none g c =
    none_leave_now c.self.inside.lines.items c.args.server c.index_mut.result.now c.leave.new.self
    c.leave.result (search rules) c.leave.ensures c.in-None.is

use Rattle.std.proofs.Common.{rules, refl, inl, inr, Ok, Err, Some, None}
use Rattle.tko_mux.proofs.MuxLemmas.{ready_as}
use Rattle.tko_mux.proofs.ReadLemmas.{first_on_line, none_leaving, reached, read_free, unread_linked}
use Rattle.tko_mux.proofs.mux.Mux.take.Goals as goal

pub read_first-requires-clause-awaits : goal.read_first-requires-clause-awaits
read_first-requires-clause-awaits g c =
    first_on_line g.S.Asking.awaited _ c.args.self.now c.args.server c.index_mut.result.now
    c.self.view_is (search rules) c.index_mut.ensures.value c.requires.order.linked
    c.requires.may_shut.left

pub read_first-requires-clause-left : goal.read_first-requires-clause-left
read_first-requires-clause-left g c =
    none_leaving _ c.args.self.now c.args.server c.index_mut.result.now c.self.view_is
    (search rules) c.index_mut.ensures.value c.requires.may_shut.left

pub deliver-requires-clause-free : goal.deliver-requires-clause-free
deliver-requires-clause-free g c =
    read_free g.S.Asking.awaited g.S.Asking.waits_for _ c.args.self.now c.args.server
    c.in-Ok-Some.by c.in-Ok-Some.response c.index_mut.result.now c.read_first.new.line
    c.read_first.result c.self.view_is (search rules) c.index_mut.ensures.value
    c.requires.order.linked c.requires.may_shut.left c.read_first.ensures (search rules)

pub returns-in-Ok-Some-clause-read : goal.returns-in-Ok-Some-clause-read
returns-in-Ok-Some-clause-read g c =
    reached g.S.Asking.acts g.S.Asking.awaited g.S.Asking.asks_for g.S.Asking.waits_for _
    c.args.self.now c.args.server c.args.due c.index_mut.result.now c.read_first.new.line c.read_first.result
    (Ok (Some (c.in-Ok-Some.by, c.in-Ok-Some.response))) (Ok (Some c.deliver.result))
    c.deliver.new.self c.self.view_is (search rules) c.index_mut.ensures.value
    c.read_first.ensures (search rules) (c.deliver.result, refl, c.deliver.ensures.delivered)

pub returns-in-Ok-None-clause-read : goal.returns-in-Ok-None-clause-read
returns-in-Ok-None-clause-read g c =
    reached g.S.Asking.acts g.S.Asking.awaited g.S.Asking.asks_for g.S.Asking.waits_for _
    c.args.self.now c.args.server c.args.due c.index_mut.result.now c.read_first.new.line c.read_first.result
    (Ok None) (Ok None) _ c.self.view_is (search rules) c.index_mut.ensures.value
    c.read_first.ensures (search rules) (refl, refl)

pub returns-in-Ok-None-clause-order : goal.returns-in-Ok-None-clause-order
returns-in-Ok-None-clause-order g c = record {
  ready = ready_as (λ parts client. g.S.Asking.ready parts client.session) _ c.args.self.now
      c.self.view_is c.requires.order.ready;
  linked = unread_linked g.S.Asking.awaited g.S.Asking.waits_for _ c.args.self.now c.args.server
      c.index_mut.result.now c.read_first.new.line c.read_first.result c.self.view_is
      (search rules) c.index_mut.ensures.value c.requires.order.linked c.requires.may_shut.left
      c.read_first.ensures (inl (search rules));
}

pub returns-in-Err-clause-read : goal.returns-in-Err-clause-read
returns-in-Err-clause-read g c =
    reached g.S.Asking.acts g.S.Asking.awaited g.S.Asking.asks_for g.S.Asking.waits_for _
    c.args.self.now c.args.server c.args.due c.index_mut.result.now c.read_first.new.line c.read_first.result
    (Err c.in-Err.cause) (Err c.in-Err.cause) _ c.self.view_is (search rules)
    c.index_mut.ensures.value c.read_first.ensures c.in-Err.is (refl, refl)

pub returns-in-Err-clause-order : goal.returns-in-Err-clause-order
returns-in-Err-clause-order g c = record {
  ready = ready_as (λ parts client. g.S.Asking.ready parts client.session) _ c.args.self.now
      c.self.view_is c.requires.order.ready;
  linked = unread_linked g.S.Asking.awaited g.S.Asking.waits_for _ c.args.self.now c.args.server
      c.index_mut.result.now c.read_first.new.line c.read_first.result c.self.view_is
      (search rules) c.index_mut.ensures.value c.requires.order.linked c.requires.may_shut.left
      c.read_first.ensures (inr (c.in-Err.cause, c.in-Err.is));
}

use Rattle.std.proofs.Common.{◌∙◌, ap, subst, sym}
use Rattle.std.specs.Prelude.{Some}
use Rattle.tko_client.specs.Answerings.{awaited_with}
use Rattle.tko_client.specs.Calls.{IsCalled}
use Rattle.tko_client.specs.Handings.{HasEndedKeys}
use Rattle.tko_client.specs.Staying.{no_change}
use Rattle.tko_client.specs.Steps.{client_ghosts}
use Rattle.tko_client.specs.declared.calls.Went.TheVariants.{Asks, On}
use Rattle.tko_client.proofs.KeysStandLemmas.{complete_by, is_handed}
use Rattle.tko_client.proofs.HandedLemmas.{ended_called}
use Rattle.tko_client.proofs.CalledLemmas.{keys_called, waits_called}
use Rattle.tko_client.proofs.KeysStandLemmas.{not_waiting, settled, waiting}
use Rattle.tko_client.proofs.KeysLemmas.{sent_call}
use Rattle.tko_client.proofs.going.call_once.Goals as goal

pub returns-in-Some-next_send : goal.returns-in-Some-next_send
returns-in-Some-next_send g c =
    let keys = c.get_mut-keys.result.now in
    let is = c.in-Some.is ∙ ap Some (sym c.get_mut-keys.ensures.value) in
    let ghosts = client_ghosts {C = g.row.C.Denot} g.H.Health g.T.Trails in
    let sent = c.send-sending.ensures in
    keys_called ghosts g.H.Health.servers
    (Asks c.send-sending.result.clear) c.args.it.now keys c.send-sending.new.self
    c.args.parts.now c.args.parts.now c.requires.ready is
    (sent_call ghosts c.in-Some-next_send.server c.send-sending.result.clear
    c.send-sending.result.short keys c.send-sending.new.self c.args.parts.now
    (settled c.requires.ready is)
    sent.to sent.sent (sent.ready c.args.parts.now.config
    (settled c.requires.ready is).under_way)) no_change

pub returns-then-may_begin : goal.returns-then-may_begin
returns-then-may_begin g c =
    let keys = c.get_mut-keys.result.now in
    let is = c.in-Some.is ∙ ap Some (sym c.get_mut-keys.ensures.value) in
    keys_called (client_ghosts {C = g.row.C.Denot} g.H.Health g.T.Trails) g.H.Health.servers On
    c.args.it.now keys c.begin_key.new.keys c.args.parts.now
    c.begin_key.new.parts c.requires.ready is c.begin_key.ensures.call
    c.begin_key.ensures.stays

pub returns-else-is_asking : goal.returns-else-is_asking
returns-else-is_asking g c =
    let ghosts = client_ghosts {C = g.row.C.Denot} g.H.Health g.T.Trails in
    let keys = c.get_mut-keys.result.now in
    let is = c.in-Some.is ∙ ap Some (sym c.get_mut-keys.ensures.value) in
    let nobody = not_waiting keys c.is_asking.result c.is_asking.ensures
    c.if-is_asking.false in
    subst (λ p. IsCalled ghosts g.H.Health.servers c.end_keys-went.result
    (c.args.it.now, c.args.parts.now) (c.end_keys-went.new.it, p)) (sym c.tell_end.ensures)
    (ended_called ghosts g.H.Health.servers
    c.end_keys-went.result c.args.it.now c.end_keys-went.new.it c.args.parts.now c.requires.ready
    (record {
      keys = keys;
      are = is;
      complete = complete_by keys c.next_send.result c.is_asking.result
          c.may_begin.result (settled c.requires.ready is).settled
          c.next_send.ensures.none c.is_asking.ensures
          c.may_begin.ensures c.in_default.is c.if-is_asking.false c.if-may_begin.false;
      handed = is_handed c.requires.ready is;
    }) (ap (λ k. awaited_with k c.args.it.now.session.work) is ∙ nobody)
    (subst (λ k. HasEndedKeys c.end_keys-went.result
    (record c.args.it.now { keys = k }) c.end_keys-went.new.it)
    (sym is) c.end_keys-went.ensures))

pub returns-then-is_asking : goal.returns-then-is_asking
returns-then-is_asking g c =
    let keys = c.get_mut-keys.result.now in
    let is = c.in-Some.is ∙ ap Some (sym c.get_mut-keys.ensures.value) in
    waits_called (client_ghosts {C = g.row.C.Denot} g.H.Health g.T.Trails) g.H.Health.servers
    c.args.it.now keys c.args.parts.now c.requires.ready is
    (waiting keys c.is_asking.result c.is_asking.ensures c.if-is_asking.true)

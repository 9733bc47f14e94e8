use Rattle.std.proofs.Common.{◌<◌, ◌∙◌, Ok, ap, false, refl, subst, sym}
use Rattle.std.specs.Prelude.{Some}
use Rattle.tko_client.proofs.CountLemmas.{counted_once}
use Rattle.tko_client.proofs.KeysStandLemmas.{settled}
use Rattle.tko_client.proofs.SentToLemmas.{awaited_within, keys_awaits, sent_to}
use Rattle.tko_client.proofs.TakingLemmas.{keys_taken, session_lost, session_taken}
use Rattle.tko_client.proofs.taking.take_in.Goals as goal

pub count_sends-requires : goal.count_sends-requires
count_sends-requires g c =
    subst (λ n. c.args.server < n) (sym c.requires.links)
    (awaited_within c.args.parts.now.config c.args.it.now c.args.server c.requires.ready
    c.requires.awaits)

pub take_keys-requires : goal.take_keys-requires
take_keys-requires g c = let is = c.in-Some.is ∙ ap Some (sym c.get_mut.ensures.value) in record {
  servers = c.requires.servers;
  links = subst (λ n. c.args.server < n) (sym c.requires.links)
      (awaited_within c.args.parts.now.config c.args.it.now c.args.server c.requires.ready
      c.requires.awaits);
  ready = record {
    ready = settled c.requires.ready is;
    awaits = keys_awaits c.args.it.now c.get_mut.result.now c.args.server
        is c.requires.awaits;
  };
  sent = c.requires.sent;
}

pub returns-in-Some : goal.returns-in-Some
returns-in-Some g c =
    let is = c.in-Some.is ∙ ap Some (sym c.get_mut.ensures.value) in
    keys_taken g.H.Health g.T.Trails g.H.Health.servers false c.args.server
    (Ok c.args.outcome) c.args.it.now c.get_mut.result.now c.take_keys.new.keys c.args.parts.now
    c.take_keys.new.parts
    c.requires.ready is
    c.take_keys.ensures.taken c.take_keys.ensures.stays

pub returns-in-Ok : goal.returns-in-Ok
returns-in-Ok g c =
    session_taken g.H.Health g.T.Trails g.H.Health.servers c.in-Ok.went c.args.server c.args.outcome
    c.args.it.now _ c.args.parts.now c.count_sends.new.parts c.take_once.new.parts c.in-None.is
    (sent_to c.args.it.now c.args.server c.in-None.is c.requires.awaits) c.requires.sent
    (counted_once c.count_sends.ensures) refl c.in-Ok.ensures.ok c.in-Ok.ensures.stands
    c.take_once.ensures.left

pub returns-in-Err : goal.returns-in-Err
returns-in-Err g c =
    session_lost g.H.Health g.T.Trails g.H.Health.servers c.args.server c.args.outcome c.args.it.now
    _ c.args.parts.now c.count_sends.new.parts c.take_once.new.parts c.in-None.is
    (sent_to c.args.it.now c.args.server c.in-None.is c.requires.awaits) c.requires.sent
    (counted_once c.count_sends.ensures) refl c.in-Err.ensures.err
    c.take_once.ensures.left.stays

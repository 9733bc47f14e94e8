use Rattle.std.proofs.Common.{◌≡◌, ◌<◌, ◌≢◌, Err, ap, false, length, slice_index, subst, sym, ◌∙◌}
use Rattle.std.specs.Prelude.{Some}
use Rattle.tko_links.specs.Links.{most_sends}
use Rattle.tko_reply.specs.Interactions.{with_noted}
use Rattle.tko_client.specs.Answerings.{AreSettled}
use Rattle.tko_client.specs.Keys.{HaveActedOnOutcome}
use Rattle.tko_client.specs.Steps.{HasStayed, client_ghosts}
use Rattle.tko_client.proofs.KeysStandLemmas.{settled}
use Rattle.tko_client.proofs.SentToLemmas.{awaited_within, keys_awaits, sent_to}
use Rattle.tko_client.proofs.TakingLemmas.{keys_taken, session_stopped}
use Rattle.tko_client.proofs.taking.stop.Goals as goal

pub tell_unsent-requires : goal.tell_unsent-requires
tell_unsent-requires g c =
    subst (λ n. c.args.server < n) (sym c.requires.links)
    (awaited_within c.args.parts.now.config c.args.it.now c.args.server c.requires.ready
    c.requires.awaits)

pub stop_keys-requires : goal.stop_keys-requires
stop_keys-requires g c =
    let is = c.in-Some.is ∙ ap Some (sym c.get_mut.ensures.value) in
    let same = c.tell_unsent.ensures.same in record {
      servers = subst (λ p. g.H.Health.servers p.backend.health ≡ length p.config.addresses)
          (sym same) c.requires.servers;
      room = subst (λ p. slice_index p.backend.links c.args.server ≢ most_sends)
          (sym same) c.tell_unsent.ensures.room;
      ready = record {
        ready = subst (λ p. AreSettled p.config c.get_mut.result.now) (sym same)
            (settled c.requires.ready is);
        awaits = keys_awaits c.args.it.now c.get_mut.result.now c.args.server
            is c.requires.awaits;
      };
    }

pub returns-in-Some-clause-taken : goal.returns-in-Some-clause-taken
returns-in-Some-clause-taken g c =
    let is = c.in-Some.is ∙ ap Some (sym c.get_mut.ensures.value) in
    let same = c.tell_unsent.ensures.same in
    keys_taken g.H.Health g.T.Trails g.H.Health.servers c.args.unsent c.args.server
    (Err (record { sent = false })) c.args.it.now c.get_mut.result.now c.stop_keys.new.keys
    c.args.parts.now
    c.stop_keys.new.parts c.requires.ready
    is
    (subst (λ p. HaveActedOnOutcome
    (client_ghosts {C = g.row.C.Denot} g.H.Health g.T.Trails) c.args.unsent c.args.server
    (Err (record { sent = false })) (c.get_mut.result.now, p)
    (c.stop_keys.new.keys, c.stop_keys.new.parts))
    same c.stop_keys.ensures.taken)
    (subst (λ p. HasStayed g.H.Health.servers p c.stop_keys.new.parts) same
    c.stop_keys.ensures.stays)

pub returns-in-None-clause-taken : goal.returns-in-None-clause-taken
returns-in-None-clause-taken g c =
    let same = c.tell_unsent.ensures.same in
    session_stopped g.H.Health g.T.Trails g.H.Health.servers c.args.unsent c.args.server
    c.args.it.now _ c.args.parts.now c.stop_session.new.parts c.in-None.is
    (sent_to c.args.it.now c.args.server c.in-None.is c.requires.awaits) c.tell_unsent.ensures.room
    (ap (λ s. record c.args.it.now { session = s; told = c.stop_session.new.told })
    c.stop_session.ensures.dropped)
    (λ it at. c.stop_session.ensures.noted it at ∙ ap (λ p. with_noted it.awaited.attempts p) same)
    (subst (λ p. HasStayed g.H.Health.servers p c.stop_session.new.parts) same
    c.stop_session.ensures.stays)

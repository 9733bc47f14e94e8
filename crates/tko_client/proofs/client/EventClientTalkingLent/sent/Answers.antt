use Rattle.std.proofs.Common.{ap, refl, rules}
use Rattle.tko_model.proofs.RecordLemmas.{gains_none}
use Rattle.tko_client.specs.Clients.{phase_at}
use Rattle.tko_client.specs.Staying.{no_change}
use Rattle.tko_client.specs.Steps.{client_ghosts}
use Rattle.tko_client.proofs.ClientLemmas.{sent_act, sent_left}
use Rattle.tko_client.proofs.LivingLemmas.{sent_over, sent_ready}
use Rattle.tko_client.proofs.client.EventClientTalkingLent.sent.Goals as goal

pub returns-clause-does : goal.returns-clause-does
returns-clause-does g c = (
  sent_act c.args._lent.now.parts.config
      (phase_at c.args.self.now.course) c.args.self.now.answering _ c.args.count c.requires.within
      (ap (λ s. record c.args.self.now.answering { session = s }) c.sent.ensures.sent),
  gains_none c.args._lent.now.parts,
)

pub returns-clause-sends : goal.returns-clause-sends
returns-clause-sends g c = record {
  output = sent_left c.args.self.now.answering.session c.sent.new.self c.args.count
      c.requires.within c.sent.ensures.sent;
  taken = search rules;
  here = search rules;
}

pub returns-clause-ready : goal.returns-clause-ready
returns-clause-ready g c = λ came went was.
    sent_ready (client_ghosts {C = g.row.C.Denot} g.H.Health g.T.Trails) c.args.count
    c.args.self.now _ c.args._lent.now.parts c.args._lent.now.parts came went
    (no_change {servers = g.H.Health.servers}) c.requires.within
    (sent_over c.args._lent.now.parts.config c.args.self.now _ c.args.count was.over
    (ap (λ s. record c.args.self.now.answering { session = s }) c.sent.ensures.sent)
    (c.sent.ensures.ready c.args._lent.now.parts.config was.over.answering.session) refl)
    (returns-clause-does g c) was

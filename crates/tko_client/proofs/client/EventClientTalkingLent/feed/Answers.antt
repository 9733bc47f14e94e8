use Rattle.std.proofs.Common.{ap, rules}
use Rattle.tko_model.proofs.RecordLemmas.{gains_none}
use Rattle.tko_client.specs.Staying.{no_change}
use Rattle.tko_client.specs.Steps.{client_ghosts}
use Rattle.tko_client.proofs.ClientLemmas.{fed_act}
use Rattle.tko_client.proofs.LivingLemmas.{fed_ready}
use Rattle.tko_client.proofs.client.EventClientTalkingLent.feed.Goals as goal

pub returns-in-Ok-clause-does : goal.returns-in-Ok-clause-does
returns-in-Ok-clause-does g c = (
  fed_act c.args._lent.now.parts.config c.args.self.now.course c.args.self.now.answering _
      c.args.piece.now c.requires.needs
      (ap (λ s. record c.args.self.now.answering { session = s }) c.in-Ok.ensures.ok),
  gains_none c.args._lent.now.parts,
)

pub returns-in-Ok-clause-ready : goal.returns-in-Ok-clause-ready
returns-in-Ok-clause-ready g c = λ came went was.
    fed_ready (client_ghosts {C = g.row.C.Denot} g.H.Health g.T.Trails) c.args.piece.now
    c.args.self.now _ c.args._lent.now.parts c.args._lent.now.parts came went
    (no_change {servers = g.H.Health.servers}) (search rules) (returns-in-Ok-clause-does g c) was

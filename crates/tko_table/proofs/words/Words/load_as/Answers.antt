use Rattle.std.proofs.Common.{◌<◌, ◌∙◌, arith, subst, sym}
use Rattle.tko_model.specs.Settings.{Settings}
use Rattle.tko_table.proofs.ValueLemmas.{allows-look_at}
use Rattle.tko_table.specs.Steps.{Looked}
use Rattle.tko_table.proofs.words.Words.load_as.Goals as goal

pub place_of-requires : goal.place_of-requires
place_of-requires g c = omega (arith, c.requires.stands.server, c.args.self.now.ranges.servers.1)

pub load-requires : goal.load-requires
load-requires g c =
    let words = c.args.self.now in
    let at = c.requires.stands in
    let on_server = subst (λ (it : Settings). c.args.call.now.server < it.servers) (sym words.key) c.requires.stands.server in (
      c.requires.seat,
      omega (arith, c.requires.stands.server, words.count, c.place_of.ensures),
      allows-look_at words.table.shared.key _ _ _ g.O.Operation.op at.pass c.args.call.now c.args.phase
          c.place_of.result c.place_of.ensures at.alone at.stands c.requires.kind
          (at.settings ∙ sym words.key) on_server,
    )

pub returns-clause-looked : goal.returns-clause-looked
returns-clause-looked g c =
    subst (λ at. Looked g.O.Operation.op at c.args.seat.now.me c.load.result c.load.new.seat.me) c.place_of.ensures c.load.ensures.2.0

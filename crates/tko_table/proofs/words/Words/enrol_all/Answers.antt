use Rattle.std.proofs.Common.{◌<◌, ◌∙◌, rules}
use Rattle.tko_table.proofs.OpeningLemmas.{enrolled-one, wait-left}
use Rattle.tko_table.proofs.words.Words.enrol_all.Goals as goal

pub enrol-requires-clause-waits : goal.enrol-requires-clause-waits
enrol-requires-clause-waits c =
    let less : c.loop.counter < c.args.self.now.settings.threads = search rules in
    wait-left c.args.self.now.settings c.loop.counter _ c.loop.invariant.0 less

pub loop-preserved : goal.loop-preserved
loop-preserved c =
    let less : c.loop.counter < c.args.self.now.settings.threads = search rules in (
      enrolled-one c.args.self.now.settings c.loop.counter _ c.enrol.result _ c.loop.invariant.0 less c.enrol.ensures.drew,
      c.enrol.ensures.seat.0 ∙ c.loop.invariant.1,
      c.enrol.ensures.seat.1 ∙ c.loop.invariant.2,
    )

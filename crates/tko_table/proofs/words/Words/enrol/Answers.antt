use Rattle.std.proofs.Common.{arith}
use Rattle.tko_table.proofs.ValueLemmas.{allows-enrol_of}
use Rattle.tko_table.proofs.words.Words.enrol.Goals as goal

pub fetch_add-requires : goal.fetch_add-requires
fetch_add-requires c =
    let words = c.args.self.now in (
      c.requires.seat,
      omega (arith, words.count),
      allows-enrol_of words.table.shared.key _ _ _ c.one_thread.result c.one_thread.ensures c.requires.waits,
    )

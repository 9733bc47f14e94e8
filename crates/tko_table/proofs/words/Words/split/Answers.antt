use Rattle.std.proofs.Common.{arith}
use Rattle.tko_table.proofs.SplitLemmas.{splits}
use Rattle.tko_table.proofs.words.Words.split.Goals as goal

pub split_seat-requires : goal.split_seat-requires
split_seat-requires c =
    let words = c.args.self.now in (c.requires, omega (arith, words.count), splits words.table.shared.key _ _)

use Rattle.std.proofs.Common.{arith}
use Rattle.tko_table.proofs.JoinLemmas.{joins}
use Rattle.tko_table.proofs.words.Words.join.Goals as goal

pub join_seat-requires : goal.join_seat-requires
join_seat-requires c =
    let words = c.args.self.now in (
      c.requires.seat,
      c.requires.other,
      c.requires.slots,
      omega (arith, words.count),
      joins words.table.shared.key _ _ _ _,
    )

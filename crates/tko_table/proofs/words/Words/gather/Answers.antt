use Rattle.std.proofs.Common.{arith}
use Rattle.tko_table.proofs.JoinLemmas.{gathers}
use Rattle.tko_table.proofs.words.Words.gather.Goals as goal

pub join_seat-requires : goal.join_seat-requires
join_seat-requires c =
    let words = c.args.self.now in (
      c.requires.seat,
      c.requires.other,
      c.requires.slots,
      omega (arith, words.count),
      gathers words.table.shared.key _ _ _ _,
    )

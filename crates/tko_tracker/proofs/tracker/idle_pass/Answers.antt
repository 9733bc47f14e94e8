use Rattle.tko_tracker.proofs.PassLemmas.{idle-seat}
use Rattle.tko_tracker.proofs.tracker.idle_pass.Goals as goal

pub invariant_of-result : goal.invariant_of-result
invariant_of-result c =
    let words = c.args.words.now in
    idle-seat words.settings words.table.shared.table_id c.args.number c.args.seat c.requires.seat c.requires.within

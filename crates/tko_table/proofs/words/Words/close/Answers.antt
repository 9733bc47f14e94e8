use Rattle.tko_table.specs.Steps.{view_of}
use Rattle.tko_table.proofs.ClosingLemmas.{closed-left}
use Rattle.tko_table.proofs.words.Words.close.Goals as goal

pub returns-clause-left : goal.returns-clause-left
returns-clause-left c =
    let last = c.close_with.ensures.values.2 in
    closed-left _ c.args.self.settings _ _ _ _ (view_of c.args.seat) c.args.self.key last.2 last.1.0 last.1.1 c.requires.all c.requires.done

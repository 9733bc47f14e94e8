use Rattle.std.proofs.Common.{rules}
use Rattle.tko_runs.proofs.HeaderLemmas.{lacks_title-empty}
use Rattle.tko_runs.proofs.schedule.header.lines.title.Goals as goal

pub returns-then-is_empty-clause-err : goal.returns-then-is_empty-clause-err
returns-then-is_empty-clause-err c = lacks_title-empty c.args.text.now (search rules)

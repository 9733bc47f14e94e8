use Rattle.std.proofs.Common.{rules}
use Rattle.tko_runs.proofs.HeaderLemmas.{lacks_number-empty}
use Rattle.tko_runs.proofs.schedule.header.lines.header_number.Goals as goal

pub returns-then-is_empty-clause-err : goal.returns-then-is_empty-clause-err
returns-then-is_empty-clause-err c = lacks_number-empty c.args.line c.args.name.now c.args.text.now (search rules)

use Rattle.std.proofs.Common.{inr, rules}
use Rattle.tko_runs.proofs.HeaderLemmas.{lacks_list-empty}
use Rattle.tko_runs.proofs.schedule.header.lines.header_list.Goals as goal

pub returns-then-is_empty-clause-err : goal.returns-then-is_empty-clause-err
returns-then-is_empty-clause-err c = inr (lacks_list-empty c.args.line c.args.name.now c.args.text.now (search rules))

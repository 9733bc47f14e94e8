-- Counts that are added to others.
use Rattle.std.specs.Prelude.{◌+◌, min}
use Rattle.tko_model.specs.Numbers.{most}
use Rattle.tko_model.specs.declared.counts.Counts.{Counts}

-- these counts with what became of more requests; each number stays at the greatest
abbrev pub sum_of_counts : Counts → Counts → Counts
sum_of_counts counts more = record counts {
  attempt = min (counts.attempt + more.attempt) most;
  skip = min (counts.skip + more.skip) most;
  reply = min (counts.reply + more.reply) most;
  no_server = min (counts.no_server + more.no_server) most;
}

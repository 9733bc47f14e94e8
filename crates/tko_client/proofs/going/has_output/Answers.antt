use Rattle.std.proofs.Common.{rules}
use Rattle.tko_client.proofs.GoingLemmas.{first_there, none_there}
use Rattle.tko_client.proofs.going.has_output.Goals as goal

pub returns : goal.returns
returns c = record {
  some = first_there c.is_empty.result c.output.result.now (search rules)
      c.output.ensures.front;
  none = none_there c.is_empty.result c.output.result.now c.is_empty.ensures c.output.ensures.some;
}

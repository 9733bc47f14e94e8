use Rattle.std.proofs.Common.{rules}
use Rattle.std.specs.Prelude.{string_bytes}
use Rattle.tko_explain.proofs.NumberLemmas.{number_in_texts}
use Rattle.tko_explain.proofs.reporting.number_of.Goals as goal

pub returns : goal.returns
returns c = rw (number_in_texts string_bytes c.args.addresses.now c.args.text.now) (search rules)

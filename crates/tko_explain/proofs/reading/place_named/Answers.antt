use Rattle.std.proofs.Common.{◌∙◌}
use Rattle.tko_explain.proofs.NumberLemmas.{place_in_texts}
use Rattle.tko_explain.proofs.reading.place_named.Goals as goal

pub returns : goal.returns
returns c = c.place_in.ensures ∙ place_in_texts (λ it. it.now) c.args.names.now c.args.name.now

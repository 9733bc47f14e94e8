use Rattle.std.proofs.Common.{◌∙◌, ap, length, sym}
use Rattle.tko_explain.proofs.PointLemmas.{texts-length}
use Rattle.tko_explain.proofs.placing.count_of.Goals as goal

pub returns : goal.returns
returns c = sym (texts-length c.list_in.result.now) ∙ ap length c.list_in.ensures

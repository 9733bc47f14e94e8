use Rattle.std.proofs.Common.{[], ◌++◌, append-nil, refl, ◌∙◌}
use Rattle.tko_text.specs.Responses.{value_text}
use Rattle.tko_text.proofs.ResponseWriteLemmas.{on_ok_then}
use Rattle.tko_text.proofs.response.body.Value.append_to.Goals as goal

pub returns-clause-ok : goal.returns-clause-ok
returns-clause-ok c =
    on_ok_then c.append_value.result (λ then.
    then [] refl ∙ append-nil (c.args.out.now.items ++ value_text c.args.self.now)) c.append_value.ensures.ok

use Rattle.std.proofs.Common.{◌≡◌, Some, rules}
use Rattle.tko_text.specs.declared.response.Response.TheVariants.{Values}
use Rattle.tko_text.proofs.ResponseWriteLemmas.{on_ok_then, whole_value}
use Rattle.tko_text.proofs.response.writer.append_response.Goals as goal

pub returns-in-Values-Some-clause-ok : goal.returns-in-Values-Some-clause-ok
returns-in-Values-Some-clause-ok c =
    let is : c.args.response.now ≡ Values (Some c.in-Values-Some.value) = search rules in
    on_ok_then c.append_value.result (whole_value c.args.response.now c.in-Values-Some.value _ _ is) c.append_value.ensures.ok

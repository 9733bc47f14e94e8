use Rattle.tko_text.proofs.ResponseLaws.{one_response, beginning_has_none}
use Rattle.tko_text.proofs.response.laws.one_response.Goals as goal

pub returns-clause-response : goal.returns-clause-response
returns-clause-response c = one_response

pub returns-clause-beginning : goal.returns-clause-beginning
returns-clause-beginning c = beginning_has_none

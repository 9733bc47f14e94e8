use Rattle.tko_text.specs.Responses.{value_text}
use Rattle.tko_text.proofs.ResponseWriteLemmas.{shared_alone}
use Rattle.tko_text.proofs.response.body.Value.shared_text.Goals as goal

pub returns : goal.returns
returns c = shared_alone c.shared_text.result (value_text c.args.self.now) c.shared_text.ensures

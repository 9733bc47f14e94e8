use Rattle.tko_links.proofs.WiredLemmas.{not_aborted}
use Rattle.tko_links.proofs.wired.Wired.exchange_counted.Goals as goal

pub returns-clause-aborted : goal.returns-clause-aborted
returns-clause-aborted g c = not_aborted c.exchange_over-came.result c.exchange_over-came.ensures.record

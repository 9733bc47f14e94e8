use Rattle.std.proofs.Common.{rules}
use Rattle.tko_session.proofs.answering.send.Goals as goal

pub returns-clause-others : goal.returns-clause-others
returns-clause-others g c = record { others = search rules; probes = c.exchange-came.ensures.probes }

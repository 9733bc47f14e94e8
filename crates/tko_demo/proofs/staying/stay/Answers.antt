use Rattle.std.proofs.Common.{rules}
use Rattle.tko_demo.proofs.PlayLemmas.{on_ok_so}
use Rattle.tko_demo.proofs.staying.stay.Goals as goal

pub returns-clause-ok : goal.returns-clause-ok
returns-clause-ok g c =
    on_ok_so _ _ c.wait_for_end.result
    (λ ended. record { port = c.args.port; shown = search rules; ended = ended })
    c.wait_for_end.ensures.ok

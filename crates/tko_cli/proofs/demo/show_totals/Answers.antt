use Rattle.std.proofs.Common.{rules}
use Rattle.tko_demo.proofs.PlayLemmas.{on_ok_so}
use Rattle.tko_cli.proofs.demo.show_totals.Goals as goal

pub returns-clause-ok : goal.returns-clause-ok
returns-clause-ok g c =
    on_ok_so _ _ c.write.result
    (λ shown. record { counts = c.in_ok-totals.totals.counts; shown = search rules })
    c.write.ensures.ok

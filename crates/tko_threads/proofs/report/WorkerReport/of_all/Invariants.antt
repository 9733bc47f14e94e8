use Rattle.std.proofs.Common.{◌≡◌, ◌≤◌, ◌+◌, ◌||◌, drop}
use Rattle.std.specs.List.{list_any, sum_by}
use Rattle.tko_bytes.specs.Numbers.{capped}
use Rattle.tko_threads.proofs.report.WorkerReport.of_all.Given as goal

abbrev pub invariant-loop-one : goal.invariant-loop-one
invariant-loop-one g l =
    let left = drop l.one-index l.ended in
    (capped (l.all.sessions + sum_by (λ one. one.1.sessions) left)
    ≡ capped (sum_by (λ one. one.1.sessions) l.ended))
    × (capped (l.all.faults + sum_by (λ one. one.1.faults) left)
    ≡ capped (sum_by (λ one. one.1.faults) l.ended))
    × ((l.all.memory || list_any (λ one. one.1.memory) left)
    ≡ list_any (λ one. one.1.memory) l.ended)
    × ((l.all.ledger_full || list_any (λ one. one.1.ledger_full) left)
    ≡ list_any (λ one. one.1.ledger_full) l.ended)
    × (l.all.sessions ≤ 18446744073709551615) × (l.all.faults ≤ 18446744073709551615)

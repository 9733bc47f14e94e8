-- What workers met.
use Rattle.std.specs.Prelude.{◌≡◌, ◌+◌, ◌||◌, Bool, false, true, List, Result, Ok, Err}
use Rattle.std.specs.List.{list_any, sum_by}
use Rattle.tko_threads.specs.declared.report.WorkerReport.{WorkerReport}
use Rattle.tko_bytes.specs.Numbers.{capped}
use Rattle.tko_metrics.specs.declared.worker_meter.Ending.{Ending}
use Rattle.tko_metrics.specs.declared.worker_meter.Ending.TheVariants as ending
use Rattle.tko_session.specs.declared.fault.SessionFault.{SessionFault}
use Rattle.tko_session.specs.declared.fault.SessionFault.TheVariants as fault

abbrev pub no_report : WorkerReport
no_report = record { sessions = 0; faults = 0; memory = false; ledger_full = false }

-- whether memory ran out in a session
abbrev pub session_ran_out : SessionFault → Bool
session_ran_out fault.Memory = true
session_ran_out _ = false

-- how the metrics call a session's end
abbrev pub ending_of : {T : Type 0} → Result T SessionFault → Ending
ending_of (Ok served) = ending.Done
ending_of (Err fault.Read) = ending.Read
ending_of (Err (fault.Write written)) = ending.Write
ending_of (Err fault.LineTooLong) = ending.LineTooLong
ending_of (Err fault.Memory) = ending.Memory

-- one session more, which ended so
abbrev pub counted_session : {T : Type 0} → WorkerReport → Result T SessionFault → WorkerReport
counted_session report (Ok served) = record report { sessions = capped (report.sessions + 1) }
counted_session report (Err cause) = record report {
  sessions = capped (report.sessions + 1);
  faults = capped (report.faults + 1);
  memory = report.memory || session_ran_out cause;
}

-- a round more, in which memory ran out or did not
abbrev pub with_memory : WorkerReport → Bool → WorkerReport
with_memory report ran_out = record report { memory = report.memory || ran_out }

-- what two met together
abbrev pub sum_of_reports : WorkerReport → WorkerReport → WorkerReport
sum_of_reports one other = record {
  sessions = capped (one.sessions + other.sessions);
  faults = capped (one.faults + other.faults);
  memory = one.memory || other.memory;
  ledger_full = one.ledger_full || other.ledger_full;
}

-- what all of these workers met together: the sums of their numbers, and whether any met a lack
pub record IsSum {P : Type 0} (ended : List (P × WorkerReport)) (all : WorkerReport) : Type 0 where
  pub sessions : all.sessions ≡ capped (sum_by (λ one. one.1.sessions) ended)
  pub faults : all.faults ≡ capped (sum_by (λ one. one.1.faults) ended)
  pub memory : all.memory ≡ list_any (λ one. one.1.memory) ended
  pub ledger_full : all.ledger_full ≡ list_any (λ one. one.1.ledger_full) ended

-- How the clients of an event-driven worker ended, as it reports it.
use Rattle.std.specs.Prelude.{◌+◌, Bool, false, nat_lt, ℕ}
use Rattle.tko_bytes.specs.Numbers.{capped}
use Rattle.tko_threads.specs.declared.report.WorkerReport.{WorkerReport}
use Rattle.tko_worker.specs.declared.ends.EndCounts.{EndCounts}

-- how many ended by a fault
abbrev pub faults_of : EndCounts → ℕ
faults_of ends = ends.line_too_long + ends.memory + ends.read + ends.write

-- whether a client ended
abbrev pub are_any : EndCounts → Bool
are_any ends = nat_lt 0 (ends.finished + faults_of ends)

-- what is reported of them: each is a session, those that ended by a fault are faults, and memory
-- ran out if one ended by that
abbrev pub report_of : EndCounts → WorkerReport
report_of ends = record {
  sessions = capped (ends.finished + faults_of ends);
  faults = capped (faults_of ends);
  memory = nat_lt 0 ends.memory;
  ledger_full = false;
}

-- What a server comes to.
use Rattle.std.specs.Prelude.{◌≡◌, ◌<◌, ℕ, true, Result, Ok, Err}
use Rattle.tko_bytes.specs.declared.memory.NoMemory.{NoMemory}
use Rattle.tko_accept.specs.declared.accepting.AcceptEnd.{AcceptEnd}
use Rattle.tko_accept.specs.declared.accepting.AcceptEnd.TheVariants.{Enough, NoWorker, Broken}
use Rattle.tko_accept.specs.declared.listening.Listening.{Listening}
use Rattle.tko_server.specs.declared.ending.ServedReport.{ServedReport}
use Rattle.tko_server.specs.declared.run_fault.ServerRunFault.{ServerRunFault}
use Rattle.tko_server.specs.declared.run_fault.ServerRunFault.TheVariants as run
use Rattle.tko_threads.specs.declared.report.WorkerReport.{WorkerReport}

-- what a server came to whose workers met this, and which ended accepting so, after so many
-- connections
abbrev pub ended_by : Result WorkerReport NoMemory → AcceptEnd → ℕ
    → Result ServedReport ServerRunFault
ended_by (Ok report) Enough accepted = Ok (record { report = report; accepted = accepted })
ended_by (Ok report) NoWorker accepted = Err run.Memory
ended_by (Ok report) Broken accepted = Err run.Accept
ended_by (Err none) ended accepted = Err run.Memory

-- as many connections were accepted as were asked for, and a number was asked for
abbrev pub IsEnough : ℕ → ℕ → Type 0
IsEnough asked accepted = (0 < asked) × (accepted ≡ asked)

-- what a server came to that has announced: it ends well only once as many connections were
-- accepted as were asked for, and by a fault of accepting only where the listener is broken
abbrev pub HasComeTo : ℕ → Listening → Result ServedReport ServerRunFault → Type 0
HasComeTo asked listening (Ok served) =
    IsEnough asked served.accepted × (listening.accepted ≡ served.accepted)
HasComeTo asked listening (Err (run.Settings fault)) = ⊥
HasComeTo asked listening (Err run.Memory) = Unit {0}
HasComeTo asked listening (Err run.Announce) = ⊥
HasComeTo asked listening (Err run.Accept) = listening.is_broken ≡ true

-- What a server that has announced came to.
use Rattle.std.proofs.Common.{ℕ, Result, Ok, Err, refl}
use Rattle.tko_bytes.specs.declared.memory.NoMemory.{NoMemory}
use Rattle.tko_accept.specs.Accepting.{HasAccepted}
use Rattle.tko_accept.specs.declared.accepting.AcceptEnd.{AcceptEnd}
use Rattle.tko_accept.specs.declared.accepting.AcceptEnd.TheVariants.{Enough, NoWorker, Broken}
use Rattle.tko_accept.specs.declared.accepting.Entrance.{Entrance}
use Rattle.tko_accept.specs.declared.listening.Listening.{Listening}
use Rattle.tko_server.specs.Endings.{HasComeTo, ended_by}
use Rattle.tko_threads.specs.declared.report.WorkerReport.{WorkerReport}

-- accepting ended so, and the workers met this
pub came_to : {W : Type 0} (asked : ℕ) (listening : Listening) (entrance : Entrance W) (report : Result WorkerReport NoMemory)
    (ended : AcceptEnd) → HasAccepted asked listening entrance ended
    → HasComeTo asked listening (ended_by report ended listening.accepted)
came_to asked listening entrance (Ok report) Enough accepted = (accepted.enough refl, refl)
came_to asked listening entrance (Ok report) NoWorker accepted = tt
came_to asked listening entrance (Ok report) Broken accepted = accepted.broken.0 refl
came_to asked listening entrance (Err none) ended accepted = tt

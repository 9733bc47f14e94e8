use Rattle.tko_mux.specs.Muxes.{line_at}
use Rattle.tko_port.proofs.WireLemmas.{cause_line}
use Rattle.tko_worker.proofs.worker.Worker.fail.Goals as goal

pub shut-requires-clause-cause : goal.shut-requires-clause-cause
shut-requires-clause-cause g c =
    cause_line (line_at c.self.inside.mux c.args.server) c.args.why c.requires.cause

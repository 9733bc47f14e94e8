use Rattle.std.proofs.Common.{refl}
use Rattle.std.proofs.lemmas.Result.{err_from_is_err_and}
use Rattle.tko_session.proofs.StoppedLemmas.{stopped_at_once}
use Rattle.tko_session.proofs.serving.serve.Goals as goal

pub returns-in_err-buffer-clause-ends : goal.returns-in_err-buffer-clause-ends
returns-in_err-buffer-clause-ends g c =
    let p = err_from_is_err_and c.from_residual.result c.from_residual.ensures.1 in
    rw (p.1, p.2) (
      stopped_at_once c.args.reader.now c.args.writer.now c.args.parts.now
          (g.met.I.Inlet.nothing c.args.reader.now) (g.met.O.Outlet.nothing c.args.writer.now),
      record { reads = refl; writes = refl },
    )

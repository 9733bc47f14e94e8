use Rattle.std.proofs.Common.{◌<◌, ◌^◌, ap, refl, ◌∙◌, arith}
use Rattle.std.proofs.lemmas.Result.{err_from_is_err_and}
use Rattle.tko_session.proofs.ServedLemmas.{so_far_idle, so_far_none, so_far_more, so_far_read, so_far_reads, served, served_quit}
use Rattle.tko_session.proofs.StoppedLemmas.{session_stopped, stopped_by_read, stopped_idle}
use Rattle.tko_session.proofs.serving.serve_pieces.Goals as goal

pub loop-init : goal.loop-init
loop-init g c =
    let none = so_far_none c.args.reader.now c.args.writer.now c.args.parts.now
    (g.met.I.Inlet.nothing c.args.reader.now) (g.met.O.Outlet.nothing c.args.writer.now) in
    (rw c.requires.begins none, refl, refl, c.requires.reach, c.requires.room, ap (λ s. s.work) c.requires.begins, λ begun. begun)

pub returns-in-Failed-clause-ends : goal.returns-in-Failed-clause-ends
returns-in-Failed-clause-ends g c =
    let read = c.in-Failed.ensures in (
      stopped_by_read (so_far_read g.met.I.Inlet.goes_on c.loop.invariant.0 read.piece (omega (arith, read.idles))),
      omega (arith, read.failures, c.loop.invariant.1),
    )

pub loop-preserved-in-Continue-1 : goal.loop-preserved-in-Continue-1
loop-preserved-in-Continue-1 g c =
    let read = c.in-Idle.ensures in
    let round = c.in_ok-run_idle_round-in-Idle.ensures in (
      so_far_idle g.met.I.Inlet.goes_on c.loop.invariant.0 read.piece read.idles round.round,
      omega (arith, read.failures, c.loop.invariant.1),
      c.loop.invariant.2,
      round.reach,
      omega (arith, c.read_piece.auto.buffer, c.loop.invariant.4),
      c.loop.invariant.5,
      λ begun. round.begun,
    )

pub returns-in_err-run_idle_round-in-Idle-clause-ends : goal.returns-in_err-run_idle_round-in-Idle-clause-ends
returns-in_err-run_idle_round-in-Idle-clause-ends g c =
    let failed = c.from_residual in
    let p = err_from_is_err_and failed.result failed.ensures.1 in
    let read = c.in-Idle.ensures in
    let round = c.in_err-run_idle_round-in-Idle.ensures in
    rw (p.1, p.2) (
      stopped_idle g.met.I.Inlet.goes_on c.loop.invariant.0 read.piece read.idles round.round,
      record { reads = omega (arith, read.failures, c.loop.invariant.1); writes = c.loop.invariant.2 },
    )

pub returns-in_err-run_idle_round-in-Idle-clause-begun : goal.returns-in_err-run_idle_round-in-Idle-clause-begun
returns-in_err-run_idle_round-in-Idle-clause-begun g c = λ begun. c.in_err-run_idle_round-in-Idle.ensures.begun

pub returns-then-ended-clause-ends : goal.returns-then-ended-clause-ends
returns-then-ended-clause-ends g c =
    let none = c.if-ended.true in
    let read = c.in-Bytes.ensures in
    let fits : c.report.result.requests < 2 ^ 64 = omega arith in (
      served c.report.result
          (so_far_read g.met.I.Inlet.goes_on c.loop.invariant.0 (rw none at read.piece.bytes) (omega (arith, read.idles)))
          (read.piece.ended none) c.report.ensures.requests c.report.ensures.unfinished fits,
      record { reads = omega (arith, read.failures, c.loop.invariant.1); writes = c.loop.invariant.2 },
    )

pub serve_piece-requires-clause-settled : goal.serve_piece-requires-clause-settled
serve_piece-requires-clause-settled g c =
    record {
      settled = record { between = c.loop.invariant.5; unowed = c.loop.invariant.0.delivered.owes };
      reach = c.loop.invariant.3;
    }

pub serve_piece-requires-clause-reads : goal.serve_piece-requires-clause-reads
serve_piece-requires-clause-reads g c = so_far_reads c.loop.invariant.0

pub loop-preserved : goal.loop-preserved
loop-preserved g c =
    let read = c.in-Bytes.ensures in
    let passed = c.in_ok-quit-in-Bytes.ensures in
    let all = rw c.if-quit.false at passed.ends in
    let more = so_far_more g.met.I.Inlet.goes_on g.met.O.Outlet.goes_on _ c.loop.invariant.0
    read.piece.bytes (omega (arith, read.idles)) all in (
      more,
      omega (arith, read.failures, c.loop.invariant.1),
      all.calm ∙ c.loop.invariant.2,
      passed.between.reach,
      omega (arith, c.read_piece.auto.buffer, c.loop.invariant.4),
      passed.between.between,
      λ begun. passed.begun (c.loop.invariant.6 begun),
    )

pub returns-then-quit-clause-ends : goal.returns-then-quit-clause-ends
returns-then-quit-clause-ends g c =
    let read = c.in-Bytes.ensures in
    let report = c.report_after_quit in
    let all = rw c.if-quit.true at c.in_ok-quit-in-Bytes.ensures.ends in
    let fits : report.result.requests < 2 ^ 64 = omega arith in
    let more = so_far_more g.met.I.Inlet.goes_on g.met.O.Outlet.goes_on _ c.loop.invariant.0
    read.piece.bytes (omega (arith, read.idles)) all in (
      served_quit report.result more report.ensures.requests report.ensures.unfinished fits,
      record { reads = omega (arith, read.failures, c.loop.invariant.1); writes = all.calm ∙ c.loop.invariant.2 },
    )

pub returns-then-quit-clause-reach : goal.returns-then-quit-clause-reach
returns-then-quit-clause-reach g c = c.in_ok-quit-in-Bytes.ensures.between.reach

pub returns-in_err-quit-in-Bytes-clause-reach : goal.returns-in_err-quit-in-Bytes-clause-reach
returns-in_err-quit-in-Bytes-clause-reach g c = c.in_err-quit-in-Bytes.ensures.between.reach

pub returns-in_err-quit-in-Bytes-clause-ends : goal.returns-in_err-quit-in-Bytes-clause-ends
returns-in_err-quit-in-Bytes-clause-ends g c =
    let failed = c.from_residual-in_err-quit-in-Bytes in
    let p = err_from_is_err_and failed.result failed.ensures.1 in
    let read = c.in-Bytes.ensures in
    rw (p.1, p.2) (session_stopped g.met.I.Inlet.goes_on g.met.O.Outlet.goes_on c.in_err-quit-in-Bytes.field-0.0 _ _ c.loop.invariant.0
    read.piece.bytes (omega (arith, read.idles)) (omega (arith, read.failures, c.loop.invariant.1)) c.loop.invariant.2
    c.in_err-quit-in-Bytes.ensures.ends)

use Rattle.std.proofs.Common.{[], arith}
use Rattle.tko_io.proofs.pieces.wait_for_piece.Goals as goal

pub returns-in-Bytes-clause-some : goal.returns-in-Bytes-clause-some
returns-in-Bytes-clause-some g c =
    let piece = c.in-Bytes.ensures.piece in
    record {
      within = piece.within;
      bytes = g.met.I.Inlet.goes_on _ _ _ [] _ c.loop.invariant.0 piece.bytes;
      ended = piece.ended;
    }

pub returns-in-Failed-clause-none : goal.returns-in-Failed-clause-none
returns-in-Failed-clause-none g c = g.met.I.Inlet.goes_on _ _ _ [] [] c.loop.invariant.0 c.in-Failed.ensures.piece

pub loop-preserved : goal.loop-preserved
loop-preserved g c = (
  g.met.I.Inlet.goes_on _ _ _ [] [] c.loop.invariant.0 c.in-Idle.ensures.piece,
  omega (arith, c.in-Idle.ensures.failures, c.loop.invariant.1),
)

use Rattle.std.proofs.Common.{[], Ok, ap, arith}
use Rattle.tko_io.proofs.pieces.read_piece.Goals as goal

pub returns-in-Ok-clause-piece : goal.returns-in-Ok-clause-piece
returns-in-Ok-clause-piece g c = record {
  within = c.in-Ok.ensures.within;
  bytes = g.met.I.Inlet.goes_on _ _ _ [] _ c.loop.invariant.0 c.in-Ok.ensures.gives;
  ended = λ none. c.in-Ok.ensures.ended (ap Ok none) (omega (arith, c.requires, c.read.auto.buffer));
}

pub returns-in-Err-Fault-clause-piece : goal.returns-in-Err-Fault-clause-piece
returns-in-Err-Fault-clause-piece g c = g.met.I.Inlet.goes_on _ _ _ [] [] c.loop.invariant.0 c.in-Err-Fault.ensures.gives

pub returns-in-Err-Idle-clause-piece : goal.returns-in-Err-Idle-clause-piece
returns-in-Err-Idle-clause-piece g c = g.met.I.Inlet.goes_on _ _ _ [] [] c.loop.invariant.0 c.in-Err-Idle.ensures.gives

pub loop-preserved : goal.loop-preserved
loop-preserved g c =
    let calm = rw c.in-Err-Again.field-0-is at c.in-Err-Again.ensures.failures in
    let busy = rw c.in-Err-Again.field-0-is at c.in-Err-Again.ensures.idles in (
      g.met.I.Inlet.goes_on _ _ _ [] [] c.loop.invariant.0 c.in-Err-Again.ensures.gives,
      omega (arith, calm, c.loop.invariant.1),
      omega (arith, busy, c.loop.invariant.2),
    )

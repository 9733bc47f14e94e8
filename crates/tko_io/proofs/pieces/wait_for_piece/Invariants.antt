use Rattle.std.proofs.Common.{◌≡◌, []}
use Rattle.tko_io.proofs.pieces.wait_for_piece.Given as goal

abbrev pub invariant-loop : goal.invariant-loop
invariant-loop g l =
    g.I.Inlet.gives l.fn.reader [] l.reader × (g.I.Inlet.failures l.reader ≡ g.I.Inlet.failures l.fn.reader)

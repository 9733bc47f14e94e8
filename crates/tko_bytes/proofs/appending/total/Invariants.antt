use Rattle.std.proofs.Common.{◌≡◌, sum_by, length, take}
use Rattle.tko_bytes.proofs.appending.total.Given as goal

abbrev pub invariant-loop-piece : goal.invariant-loop-piece
invariant-loop-piece l = l.len ≡ sum_by (λ piece. length piece.now) (take l.piece-index l.pieces)

use Rattle.std.proofs.Common.{◌≡◌, ◌++◌, ◌+◌, ◌≤◌, flat_map, sum_by, length, drop}
use Rattle.std.specs.Vec.{vec_len, vec_capacity}
use Rattle.tko_bytes.proofs.appending.append.Given as goal

abbrev pub invariant-loop-piece : goal.invariant-loop-piece
invariant-loop-piece l = record {
  text : l.out.items ++ flat_map (λ piece. piece.now) (drop l.piece-index l.pieces)
      ≡ l.initial.out.items ++ flat_map (λ piece. piece.now) l.pieces;
  room : vec_len l.out + sum_by (λ piece. length piece.now) (drop l.piece-index l.pieces)
      ≤ vec_capacity l.out;
}

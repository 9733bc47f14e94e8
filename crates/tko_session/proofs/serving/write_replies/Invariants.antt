use Rattle.tko_session.proofs.ReplyLemmas.{WrittenSoFar, writing}
use Rattle.tko_session.proofs.serving.write_replies.Given as goal

abbrev pub invariant-loop : goal.invariant-loop
invariant-loop g l =
    WrittenSoFar g.O.Outlet (writing l.fn.session l.fn.writer l.fn.written)
    (writing l.session l.writer l.written)

use Rattle.std.proofs.Common.{arith}
use Rattle.tko_port.specs.Talks.{Sent}
use Rattle.tko_port.proofs.ShareLemmas.{one_done, written_within}
use Rattle.tko_port.proofs.settling.write_out.Goals as goal

pub returns-in-Some-clause-served : goal.returns-in-Some-clause-served
returns-in-Some-clause-served g c =
    let was = g.L.Port.port c.args.port.now in
    let port = g.L.Port.port c.write.new.self in
    one_done g.T.Talking.does (Sent c.in-Some.count) 0 0 was port c.sent.ensures.does (omega arith)
    (written_within was port c.output.result.now c.write.result c.write.ensures)

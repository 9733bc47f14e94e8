use Rattle.std.proofs.Common.{arith, length, rules}
use Rattle.tko_port.specs.Talks.{went_as}
use Rattle.tko_port.proofs.ShareLemmas.{one_done, served_on, went_once}
use Rattle.tko_port.proofs.settling.serve.Goals as goal

pub returns-in-Waits-clause-served : goal.returns-in-Waits-clause-served
returns-in-Waits-clause-served g c =
    let port = g.L.Port.port c.args.port.now in
    one_done g.T.Talking.does (went_as c.go_on.result) 1 (length c.args.buffer.now) port port
    c.go_on.ensures.does (went_once c.go_on.result) (omega arith)

pub returns-in_default : goal.returns-in_default
returns-in_default g c =
    let port = g.L.Port.port c.args.port.now in
    let served = one_done g.T.Talking.does (went_as c.go_on.result) 1 (length c.args.buffer.now)
    port port c.go_on.ensures.does (went_once c.go_on.result) (omega arith) in record {
      ends = search rules;
      same = tt;
      served = served;
      ready = search rules;
    }

pub returns-in-Ok-None-clause-served : goal.returns-in-Ok-None-clause-served
returns-in-Ok-None-clause-served g c =
    let was = g.L.Port.port c.args.port.now in
    let room = length c.args.buffer.now in
    served_on g.T.Talking.does 1 0 1 0 room room was was (g.L.Port.port c.serve_here.new.port)
    (omega arith) (omega arith)
    (one_done g.T.Talking.does (went_as c.go_on.result) 1 0 was was c.go_on.ensures.does
    (went_once c.go_on.result) (omega arith))
    c.serve_here.ensures.served

pub returns-in-Err-clause-served : goal.returns-in-Err-clause-served
returns-in-Err-clause-served g c =
    let port = g.L.Port.port c.args.port.now in
    one_done g.T.Talking.does (went_as c.go_on.result) 1 (length c.args.buffer.now) port port
    c.go_on.ensures.does (went_once c.go_on.result) (omega arith)

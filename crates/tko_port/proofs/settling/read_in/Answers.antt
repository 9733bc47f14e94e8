use Rattle.std.proofs.Common.{arith, length}
use Rattle.tko_port.specs.Talks.{Ended, fed_as}
use Rattle.tko_port.proofs.ShareLemmas.{fed_never, nothing_read, one_done, read_within}
use Rattle.tko_port.proofs.settling.read_in.Goals as goal

pub returns-in-Ok-clause-served : goal.returns-in-Ok-clause-served
returns-in-Ok-clause-served g c =
    let was = g.L.Port.port c.args.port.now in
    let port = g.L.Port.port c.read.new.self in
    one_done g.T.Talking.does (fed_as _ c.feed.result) 0 (length c.args.buffer.now) was port
    c.feed.ensures.does (fed_never _ c.feed.result)
    (omega (
      arith,
      read_within was port c.read.new.buffer c.read.result c.read.ensures,
      c.read.auto.buffer,
    ))

pub returns-in-Err-clause-served : goal.returns-in-Err-clause-served
returns-in-Err-clause-served g c =
    let was = g.L.Port.port c.args.port.now in
    let port = g.L.Port.port c.read.new.self in
    one_done g.T.Talking.does (fed_as _ c.feed.result) 0 (length c.args.buffer.now) was port
    c.feed.ensures.does (fed_never _ c.feed.result)
    (omega (
      arith,
      read_within was port c.read.new.buffer c.read.result c.read.ensures,
      c.read.auto.buffer,
    ))

pub returns-in-Nothing-clause-ends : goal.returns-in-Nothing-clause-ends
returns-in-Nothing-clause-ends g c =
    nothing_read (g.T.Talking.talk c.args.talk.now) (g.T.Talking.awaited c.args.talk.now)
    (g.L.Port.port c.args.port.now) (g.L.Port.port c.read.new.self)
    (g.T.Talking.asks_for c.args.talk.now) c.requires.needs c.in-Nothing.ensures

pub returns-in-Ended-clause-served : goal.returns-in-Ended-clause-served
returns-in-Ended-clause-served g c =
    let was = g.L.Port.port c.args.port.now in
    let port = g.L.Port.port c.read.new.self in
    one_done g.T.Talking.does Ended 0 (length c.args.buffer.now) was port c.end.ensures.does
    (omega arith)
    (omega (
      arith,
      read_within was port c.read.new.buffer c.read.result c.read.ensures,
      c.read.auto.buffer,
    ))

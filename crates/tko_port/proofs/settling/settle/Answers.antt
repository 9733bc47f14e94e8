use Rattle.std.proofs.Common.{◌+◌, arith, length, rules}
use Rattle.tko_port.specs.Shares.{rounds_a_turn}
use Rattle.tko_port.proofs.ShareLemmas.{round_on, rounds_within}
use Rattle.tko_port.proofs.settling.settle.Goals as goal

pub returns-in-Some-clause-served : goal.returns-in-Some-clause-served
returns-in-Some-clause-served g c =
    let room = length c.args.buffer.now in
    let was = g.L.Port.port c.args.port.now in
    let at = g.L.Port.port c.loop.port in
    let port = g.L.Port.port c.serve.new.port in
    rounds_within g.T.Talking.does (c.loop.counter + 1) rounds_a_turn room was port
    (omega (arith, c.loop-test.true))
    (round_on g.T.Talking.does c.loop.counter room (length c.loop.buffer) was at port
    c.loop.auto.buffer c.loop.invariant.served c.serve.ensures.served)

pub returns-clause-served : goal.returns-clause-served
returns-clause-served g c =
    rounds_within g.T.Talking.does c.loop.counter rounds_a_turn (length c.args.buffer.now)
    (g.L.Port.port c.args.port.now) (g.L.Port.port c.loop.port)
    (omega (arith, c.loop-test.false, c.loop.auto.counter-end)) c.loop.invariant.served

pub loop-preserved : goal.loop-preserved
loop-preserved g c = record {
  ready = search rules;
  asks = search rules;
  room = search rules;
  served = round_on g.T.Talking.does c.loop.counter (length c.args.buffer.now)
      (length c.loop.buffer) (g.L.Port.port c.args.port.now) (g.L.Port.port c.loop.port)
      (g.L.Port.port c.serve.new.port) c.loop.auto.buffer c.loop.invariant.served
      c.serve.ensures.served;
  stays = search rules;
}

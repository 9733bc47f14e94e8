use Rattle.std.proofs.Common.{refl, subst}
use Rattle.tko_mux.specs.Muxes.{MuxState}
use Rattle.tko_port.specs.declared.guest.ClientEvent.TheVariants.{Leave}
use Rattle.tko_worker.specs.Workers.{HasReached, IsHere, leaving}
use Rattle.tko_worker.proofs.NotedLemmas.{client_left, event_reached, leaving_rests, reached_lines}
use Rattle.tko_worker.proofs.serving.drop_client.Goals as goal

pub returns-clause-ends : goal.returns-clause-ends
returns-clause-ends g c =
    client_left (g.T.Talking.awaited, g.T.Talking.talk, g.L.Port.port) c.args.why c.args.mux.now c.close.new.self c.args.ends.now
    c.count.new.self c.args.number c.close.result c.in-Some.guest c.close.ensures.some c.in-Some.is
    c.close.ensures.lines.lines c.close.ensures.lines.limit c.count.ensures

pub returns-then-not-is_resting-clause-ends : goal.returns-then-not-is_resting-clause-ends
returns-then-not-is_resting-clause-ends g c =
    let Reached : MuxState _ _ → Type 0 = λ m.
    HasReached g.L.Port.port (Leave c.args.why) m c.args.number c.act.new.self in
    let reached : Reached c.args.mux.now =
    subst Reached c.in_default.ensures.none.0
    (event_reached (g.T.Talking.awaited, g.T.Talking.talk, g.L.Port.port)
    (λ guest. g.T.Talking.asks_for guest.talk) c.close.new.self c.act.new.self c.args.number
    (Leave c.args.why) c.act.result tt c.act.ensures.some c.act.ensures.none c.act.ensures.kept) in
    leaving c.in_default.ensures.none.1
    (subst (λ (m : MuxState _ _). IsHere m.roster.slots c.args.number) c.in_default.ensures.none.0
    c.if-not-is_resting.ensures.here) reached refl

pub returns-then-not-is_resting-clause-rests : goal.returns-then-not-is_resting-clause-rests
returns-then-not-is_resting-clause-rests g c =
    let Reached : MuxState _ _ → Type 0 = λ m.
    HasReached g.L.Port.port (Leave c.args.why) m c.args.number c.act.new.self in
    let reached : Reached c.args.mux.now =
    subst Reached c.in_default.ensures.none.0
    (event_reached (g.T.Talking.awaited, g.T.Talking.talk, g.L.Port.port)
    (λ guest. g.T.Talking.asks_for guest.talk) c.close.new.self c.act.new.self c.args.number
    (Leave c.args.why) c.act.result tt c.act.ensures.some c.act.ensures.none c.act.ensures.kept) in
    leaving_rests (g.T.Talking.awaited, g.T.Talking.talk, g.L.Port.port) c.args.why c.args.mux.now
    c.act.new.self c.args.number c.in_default.ensures.none.1 reached

pub returns-then-not-is_resting-clause-lines : goal.returns-then-not-is_resting-clause-lines
returns-then-not-is_resting-clause-lines g c =
    let Reached : MuxState _ _ → Type 0 = λ m.
    HasReached g.L.Port.port (Leave c.args.why) m c.args.number c.act.new.self in
    let reached : Reached c.args.mux.now =
    subst Reached c.in_default.ensures.none.0
    (event_reached (g.T.Talking.awaited, g.T.Talking.talk, g.L.Port.port)
    (λ guest. g.T.Talking.asks_for guest.talk) c.close.new.self c.act.new.self c.args.number
    (Leave c.args.why) c.act.result tt c.act.ensures.some c.act.ensures.none c.act.ensures.kept) in
    reached_lines (g.T.Talking.awaited, g.T.Talking.talk, g.L.Port.port) (Leave c.args.why)
    c.args.mux.now c.act.new.self c.args.number reached

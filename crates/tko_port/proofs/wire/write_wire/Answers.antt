use Rattle.std.proofs.Common.{◌≢◌, [], None, Some, drop, subst}
use Rattle.std.specs.Option.{option_map}
use Rattle.tko_port.specs.Wires.{IsNotWritable, WritesPiece, failed, wrote}
use Rattle.tko_port.proofs.WireLemmas.{other_lines, written_left}
use Rattle.tko_port.proofs.wire.write_wire.Goals as goal

pub returns-in-Some-clause-wrote : goal.returns-in-Some-clause-wrote
returns-in-Some-clause-wrote g c =
    wrote c.in-Some.count
    (subst (λ text. WritesPiece (option_map g.L.Port.port c.args.socket.now) text
    (Some c.in-Some.count) (option_map g.L.Port.port c.write_piece.new.socket))
    c.unwritten.ensures c.in-Some.ensures.writes)
    c.wrote.ensures.wrote.on

pub returns-in-Some-clause-cannot : goal.returns-in-Some-clause-cannot
returns-in-Some-clause-cannot g c =
    written_left c.args.mux.now.lines c.wrote.new.self.lines c.args.server c.in-Some.count
    (option_map g.L.Port.port c.write_piece.new.socket) c.wrote.ensures.wrote.on
    (subst (λ text. drop c.in-Some.count text ≢ []
    → IsNotWritable (option_map g.L.Port.port c.write_piece.new.socket)) c.unwritten.ensures
    c.in-Some.ensures.cannot)

pub returns-in-Some-clause-others : goal.returns-in-Some-clause-others
returns-in-Some-clause-others g c =
    other_lines _ c.args.mux.now.lines c.wrote.new.self.lines c.args.server
    c.wrote.ensures.wrote.on

pub returns-in-None-clause-wrote : goal.returns-in-None-clause-wrote
returns-in-None-clause-wrote g c =
    failed (option_map g.L.Port.port c.write_piece.new.socket)
    (subst (λ text. WritesPiece (option_map g.L.Port.port c.args.socket.now) text None
    (option_map g.L.Port.port c.write_piece.new.socket)) c.unwritten.ensures
    c.in-None.ensures.writes)
    c.give_up.ensures.shut.shut c.give_up.ensures.shut.gone

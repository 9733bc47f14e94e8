use Rattle.std.proofs.Common.{rules, refl, sym, ap}
use Rattle.std.specs.Option.{option_map}
use Rattle.tko_port.specs.Wires.{gave, unready}
use Rattle.tko_port.proofs.wire.read_piece.Goals as goal

pub returns-then-not-is_readable-clause-reads : goal.returns-then-not-is_readable-clause-reads
returns-then-not-is_readable-clause-reads g c =
    unready (g.L.Port.port c.in-Some.port) (ap (option_map g.L.Port.port) c.in-Some.is)
    (search rules) refl (sym (ap (option_map g.L.Port.port) c.in-Some.is))

pub returns-clause-reads : goal.returns-clause-reads
returns-clause-reads g c =
    gave (g.L.Port.port c.in-Some.port) (g.L.Port.port c.read.new.self)
    (ap (option_map g.L.Port.port) c.in-Some.is) c.read.ensures refl

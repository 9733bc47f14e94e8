use Rattle.std.proofs.Common.{refl}
use Rattle.std.specs.Option.{option_map}
use Rattle.tko_pipe.specs.declared.fates.ShutCause.TheVariants as cause
use Rattle.tko_port.specs.declared.port.Read.TheVariants as read
use Rattle.tko_port.specs.Wires.{got, over}
use Rattle.tko_port.proofs.wire.read_wire.Goals as goal

pub returns-in-Bytes-clause-read : goal.returns-in-Bytes-clause-read
returns-in-Bytes-clause-read g c =
    got c.read_piece.new.buffer c.in-Bytes.count
    (option_map g.L.Port.port c.read_piece.new.socket) c.in-Bytes.ensures.reads
    c.receive.ensures.come

pub returns-in-Ended-clause-read : goal.returns-in-Ended-clause-read
returns-in-Ended-clause-read g c =
    over c.read_piece.new.buffer read.Ended (option_map g.L.Port.port c.read_piece.new.socket)
    cause.EndOfInput c.in-Ended.ensures.reads refl c.give_up.ensures.shut.shut
    c.give_up.ensures.shut.gone

pub returns-in-Fault-clause-read : goal.returns-in-Fault-clause-read
returns-in-Fault-clause-read g c =
    over c.read_piece.new.buffer read.Fault (option_map g.L.Port.port c.read_piece.new.socket)
    cause.Fault c.in-Fault.ensures.reads refl c.give_up-in-Fault.ensures.shut.shut
    c.give_up-in-Fault.ensures.shut.gone

use Rattle.tko_port.specs.Wires.{unwritten_at}
use Rattle.tko_mux.specs.Muxes.{line_at}
use Rattle.tko_port.proofs.WireLemmas.{none_unwritten}
use Rattle.tko_port.proofs.wire.has_unwritten.Goals as goal

pub returns : goal.returns
returns g c = record {
  none = none_unwritten c.is_empty.result c.unwritten.result.now
      (unwritten_at (line_at c.args.mux.now c.args.server)) c.is_empty.ensures
      c.unwritten.ensures;
}

use Rattle.tko_ring.proofs.CrcLemmas.{nibble_at}
use Rattle.tko_ring.proofs.crc.nibble.Goals as goal

pub returns : goal.returns
returns c = nibble_at c.args.low c.requires

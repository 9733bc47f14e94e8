use Rattle.tko_ring.proofs.CrcLemmas.{four_steps-by_table}
use Rattle.tko_ring.proofs.crc.four_steps.Goals as goal

pub returns : goal.returns
returns c = four_steps-by_table c.args.crc c.nibble.result c.nibble.ensures

use Rattle.memchr.proofs.lemmas.ValueLemmas.{IsLastByte-value}
use Rattle.memchr.specs.Find.{is_byte}
use Rattle.tko_ring.specs.Names.{port_colon}
use Rattle.tko_ring.proofs.name.port_colon.Goals as goal

pub returns-clause-place : goal.returns-clause-place
unfolding port_colon
returns-clause-place c = IsLastByte-value (is_byte 58) c.args.address.now c.memrchr.result c.memrchr.ensures

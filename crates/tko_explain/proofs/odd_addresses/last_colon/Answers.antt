use Rattle.memchr.proofs.lemmas.ValueLemmas.{IsLastByte-value}
use Rattle.memchr.specs.Find.{is_byte}
use Rattle.tko_pools.specs.Addresses.{last_colon}
use Rattle.tko_explain.proofs.odd_addresses.last_colon.Goals as goal

pub returns-clause-place : goal.returns-clause-place
unfolding last_colon
returns-clause-place c = IsLastByte-value (is_byte 58) c.args.text.now c.memrchr.result c.memrchr.ensures

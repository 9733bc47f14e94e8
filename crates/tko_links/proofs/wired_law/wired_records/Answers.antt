use Rattle.tko_links.proofs.WiredLemmas.{wire_record}
use Rattle.tko_links.proofs.wired_law.wired_records.Goals as goal

pub returns : goal.returns
returns g c = wire_record

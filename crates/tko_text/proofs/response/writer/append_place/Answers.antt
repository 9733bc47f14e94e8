use Rattle.tko_text.proofs.ResponseWriteLemmas.{at_place}
use Rattle.tko_text.proofs.response.writer.append_place.Goals as goal

pub returns-clause-ok : goal.returns-clause-ok
returns-clause-ok c =
    at_place c.append_parts.result c.args.out.now.items c.append_parts.new.out.items c.args.text.now c.args.place.now c.append_parts.ensures.ok

use Rattle.tko_scrapes.proofs.pages.add_text_type.Goals as goal

pub returns-clause-fields : goal.returns-clause-fields
returns-clause-fields c = rw c.from_static-kind.ensures at c.add_header.ensures.headers

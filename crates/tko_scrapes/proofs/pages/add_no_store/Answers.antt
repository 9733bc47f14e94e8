use Rattle.tko_scrapes.proofs.pages.add_no_store.Goals as goal

pub returns-clause-fields : goal.returns-clause-fields
returns-clause-fields c = rw c.from_static.ensures at c.add_header.ensures.headers

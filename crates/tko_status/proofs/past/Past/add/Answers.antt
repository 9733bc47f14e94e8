use Rattle.tko_status.proofs.past.Past.add.Goals as goal

pub returns-clause-ok : goal.returns-clause-ok
returns-clause-ok c = record {
  status = c.in_ok-status.status;
  is_status = c.in_ok-status.ensures;
  reading = c.in_ok-reading.reading;
  is_reading = c.in_ok-reading.ensures;
  added = c.in_ok-push.ensures.items;
}

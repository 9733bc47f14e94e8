use Rattle.tko_loop.proofs.noting.note_client.Goals as goal

-- src/noting.rt
pub returns-clause-told : goal.returns-clause-told
returns-clause-told g c = rw c.in-Some.is (record {
  mid = c.note_writable.new.clients;
  writable = c.note_writable.ensures.told;
  readable = c.note_readable.ensures.told;
})

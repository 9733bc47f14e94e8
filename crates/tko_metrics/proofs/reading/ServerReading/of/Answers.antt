use Rattle.tko_metrics.proofs.reading.ServerReading.of.Goals as goal

pub returns : goal.returns
returns c = record {
  parts = c.in_ok-parts.parts.items;
  each = c.in_ok-parts.ensures;
  is = rw c.deref.ensures.value at c.together.ensures;
}

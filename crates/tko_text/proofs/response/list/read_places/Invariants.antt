use Rattle.std.proofs.Common.{length}
use Rattle.tko_text.proofs.PlaceLemmas.{PartlyRead}
use Rattle.tko_text.proofs.response.list.read_places.Given as goal

-- the values so far, and what follows them
abbrev pub invariant-loop-places : goal.invariant-loop-places
invariant-loop-places l = record {
  read : PartlyRead l.fn.keys l.fn.unique l.fn.bytes l.places l.rest;
}

abbrev pub decreases-loop-places : goal.decreases-loop-places
decreases-loop-places l = length l.rest

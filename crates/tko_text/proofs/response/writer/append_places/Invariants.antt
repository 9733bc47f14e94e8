use Rattle.std.proofs.Common.{◌≡◌, ◌++◌, drop, length, take}
use Rattle.std.specs.Prelude.{flat_map}
use Rattle.tko_text.specs.Places.{values_in}
use Rattle.tko_text.specs.Responses.{value_text}
use Rattle.tko_text.proofs.response.writer.append_places.Given as goal

-- what is left makes what all make, and nothing that was there is lost
abbrev pub invariant-loop-place : goal.invariant-loop-place
invariant-loop-place l = record {
  text : l.out.items ++ flat_map value_text (values_in l.text (drop l.place-index l.places))
      ≡ l.fn.out.items ++ flat_map value_text (values_in l.text l.places);
  begins : take (length l.fn.out.items) l.out.items ≡ l.fn.out.items;
}

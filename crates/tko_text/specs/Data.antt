-- Where the bytes of data are.
use Rattle.std.specs.Prelude.{ℕ, List, drop, take}
use Rattle.tko_text.specs.declared.response.data.HeldData.{HeldData}
use Rattle.tko_text.specs.declared.response.data.HeldData.TheVariants.{Own, Part}
use Rattle.tko_text.specs.declared.response.data.Part as part

abbrev pub part_bytes : part.Part → List ℕ
part_bytes it = take it.size (drop it.begin it.text)

abbrev pub held_bytes : HeldData → List ℕ
held_bytes (Own bytes) = bytes.items
held_bytes (Part it) = part_bytes it

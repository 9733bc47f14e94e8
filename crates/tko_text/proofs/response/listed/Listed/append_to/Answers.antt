use Rattle.std.proofs.Common.{List, ℕ, subst, sym}
use Rattle.std.specs.Prelude.{All}
use Rattle.tko_text.specs.Places.{IsPlaceIn}
use Rattle.tko_text.proofs.ListedLemmas.{all_behind}
use Rattle.tko_text.proofs.response.listed.Listed.append_to.Goals as goal

pub append_places-requires-2 : goal.append_places-requires-2
append_places-requires-2 c =
    subst (λ (text : List ℕ). All (IsPlaceIn text) c.as_slices.result.1.now) (sym c.as_slice-2.ensures)
    (all_behind c.self.inside.text c.as_slices.result.0.now c.as_slices.result.1.now c.self.inside.places.items c.as_slices.ensures.items c.self.invariant)

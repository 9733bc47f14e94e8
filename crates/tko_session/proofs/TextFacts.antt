-- Before any byte no item is decided, and where no item is a line too long reading goes on.
use Rattle.std.proofs.Common.{◌≢◌, ℕ, List, [], ◌∷◌, sym, ap, ◌∙◌, arith}
use Rattle.std.proofs.lemmas.List.Elements.{All-head, All-tail}
use Rattle.tko_text.specs.declared.item.Item.{Item}
use Rattle.tko_text.specs.Reading.{EmitsEach, Gives, NeedsMore, Never, Reading, fed, reading_start}
use Rattle.tko_text.proofs.NeverLemmas.{goes_on_reading}
use Rattle.tko_text.proofs.ReadingLemmas.{NeedsMore-short}
use Rattle.tko_session.specs.SessionState.{Continues, ContinuesAfterAll}

pub open_start : NeedsMore reading_start
open_start = NeedsMore-short [] (λ k low high. absurd (omega arith)) (omega arith)

each_goes_on : (from : Reading) (items : List Item) (to : Reading) → from.after ≢ Never
    → EmitsEach from items to
    → ContinuesAfterAll items → to.after ≢ Never
each_goes_on from [] to reads is goes =
    λ never. reads (sym (ap (λ (r : Reading). r.after) is) ∙ never)
each_goes_on from (told ∷ items) to reads (mid, tells, each) goes =
    each_goes_on mid items to (goes_on_reading from told mid tells
    (All-head Continues told items goes).read) each (All-tail Continues told items goes)

-- reading goes on after items of which none is a line too long
pub reading_goes_on : (bytes : List ℕ) (items : List Item) (to : Reading)
    → Gives (fed reading_start bytes) items to
    → ContinuesAfterAll items → to.after ≢ Never
reading_goes_on bytes items to gives goes =
    each_goes_on (fed reading_start bytes) items to (λ never. cc) gives.each goes

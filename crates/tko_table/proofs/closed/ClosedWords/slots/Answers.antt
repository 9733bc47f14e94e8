use Rattle.std.proofs.Common.{◌≡◌, ◌<◌, ◌∙◌, ap, arith, sym, subst}
use Rattle.std.specs.Mem.Slots.{slots_counts, slots_items}
use Rattle.tko_model.specs.Groups.{groups}
use Rattle.tko_model.proofs.GroupLemmas.{groups-le}
use Rattle.tko_steps.specs.Core.{slots_at, slots_in}
use Rattle.tko_table.specs.Closing.{ClosedContents}
use Rattle.tko_table.proofs.ClosingLemmas.{closed-slots}
use Rattle.tko_table.proofs.closed.ClosedWords.slots.Goals as goal

pub soft_place_in-place-requires : goal.soft_place_in-place-requires
soft_place_in-place-requires c =
    let below = subst (λ (it : ClosedContents). c.args.group < groups it.settings) (sym c.self.view_is) c.requires in
    omega (arith, below, groups-le c.self.inside.settings c.self.inside.ranges)

pub returns : goal.returns
returns c =
    let s = c.self.inside.settings in
    let words = slots_items c.self.inside.table.words in
    let below = subst (λ (it : ClosedContents). c.args.group < groups it.settings) (sym c.self.view_is) c.requires in
    let count = sym (slots_counts c.self.inside.table.words).0 ∙ c.self.inside.count in
    let read : record { firm = c.unpack_soft-firm.result.0; held = c.unpack_soft-firm.result.1 } ≡ slots_in c.word.result =
    λ i. record { firm = c.unpack_soft-firm.ensures.firm i; held = c.unpack_soft-firm.ensures.held i } in
    read ∙ closed-slots s words c.soft_place_in-place.result c.args.group c.word.result c.soft_place_in-place.ensures c.word.ensures count below
    ∙ ap (λ (it : ClosedContents). slots_at it.shared.slots c.args.group) c.self.view_is

use Rattle.std.proofs.Common.{◌≡◌, ◌+◌, ◌%◌, ◌^◌, ◌∙◌, ap, arith, subst, sym}
use Rattle.tko_steps.specs.declared.table.Action.{Action}
use Rattle.tko_steps.specs.declared.table.Observed.{Observed}
use Rattle.tko_steps.specs.declared.table.Observed.TheVariants as read
use Rattle.tko_steps.specs.Core.{slots_in}
use Rattle.tko_table.specs.Steps.{Took, read_in, view_of}
use Rattle.tko_table.proofs.ValueLemmas.{allows-reserve_at, soft-place-under}
use Rattle.tko_table.proofs.SharedLemmas.{slots-expected}
use Rattle.tko_model.proofs.GroupLemmas.{group_of-lt, groups-le}
use Rattle.tko_table.proofs.words.Words.reserve.Goals as goal

pub compare_exchange-requires : goal.compare_exchange-requires
compare_exchange-requires c =
    let words = c.args.self.now in
    let at = c.requires.stands in
    let expects : slots_in c.pack_soft-expected.result ≡ c.args.slots =
    λ i. record { firm = c.pack_soft-expected.ensures.firm i; held = c.pack_soft-expected.ensures.held i } in (
      c.requires.seat,
      omega (arith, words.count, c.soft_place_of-place.ensures, group_of-lt words.settings c.args.call.now.server words.ranges),
      allows-reserve_at words.table.shared.key _ _ _ at.pass c.args.call.now c.args.phase c.soft_place_of-place.result
          (soft-place-under words.table.shared.key words.settings c.args.call.now.server c.soft_place_of-place.result words.key c.soft_place_of-place.ensures) at.alone at.stands c.args.slots
          c.pack_soft-expected.result _ c.requires.kind expects
          (ap (λ it. (c.pack_soft-expected.result + it) % 2 ^ 64) c.one_slot.ensures),
    )

pub returns-clause-step : goal.returns-clause-step
returns-clause-step c =
    let at = c.requires.stands in
    let P : Observed → Type 0 = λ it.
    Took (view_of c.args.seat.now) c.args.call.now c.args.phase it (view_of c.compare_exchange.new.seat) in
    let Q : Action → Type 0 = λ it. P (read_in it c.compare_exchange.result) in
    let expects : slots_in c.pack_soft-expected.result ≡ c.args.slots =
    λ i. record { firm = c.pack_soft-expected.ensures.firm i; held = c.pack_soft-expected.ensures.held i } in
    let tests = c.is_won.ensures ∙ slots-expected c.compare_exchange.result c.pack_soft-expected.result c.args.slots expects in
    subst P (ap read.Done (sym tests))
    (subst Q c.requires.kind (c.compare_exchange.ensures.2.0 at.pass c.args.call.now c.args.phase at.alone at.stands))

pub soft_place_of-place-requires : goal.soft_place_of-place-requires
soft_place_of-place-requires c = groups-le c.args.self.now.settings c.args.self.now.ranges

use Rattle.std.proofs.Common.{◌≡◌, ap, arith, subst, sym, ◌∙◌}
use Rattle.tko_model.specs.Settings.{Settings}
use Rattle.tko_steps.specs.declared.table.Action.{Action}
use Rattle.tko_steps.specs.declared.table.Observed.{Observed}
use Rattle.tko_steps.specs.declared.table.Observed.TheVariants as read
use Rattle.tko_steps.specs.Core.{slots_in}
use Rattle.tko_table.specs.Steps.{Took, read_in, view_of}
use Rattle.tko_table.proofs.StepTakenLemmas.{under-way}
use Rattle.tko_table.proofs.ValueLemmas.{allows-look_at_slots_at, soft-place-under}
use Rattle.tko_model.proofs.GroupLemmas.{group_of-lt, groups-le}
use Rattle.tko_table.proofs.words.Words.look_at_slots.Goals as goal
use Rattle.tko_model.specs.Groups.{limit_at}

pub load-word-requires : goal.load-word-requires
load-word-requires c =
    let words = c.args.self.now in
    let at = c.requires.stands in (
      c.requires.seat,
      omega (arith, words.count, c.soft_place_of-place.ensures, group_of-lt words.settings c.args.call.now.server words.ranges),
      allows-look_at_slots_at words.table.shared.key _ _ _ at.pass c.args.call.now c.args.phase c.soft_place_of-place.result
          (soft-place-under words.table.shared.key words.settings c.args.call.now.server c.soft_place_of-place.result words.key c.soft_place_of-place.ensures) at.alone
          (under-way at.pass.state c.args.call.now c.args.phase at.stands c.requires.kind) c.requires.kind (at.settings ∙ sym words.key),
    )

pub returns-clause-step : goal.returns-clause-step
returns-clause-step c =
    let at = c.requires.stands in
    let P : Observed → Type 0 = λ it.
    Took (view_of c.args.seat.now) c.args.call.now c.args.phase it (view_of c.load-word.new.seat) in
    let Q : Action → Type 0 = λ it. P (read_in it c.load-word.result) in
    let same : slots_in c.load-word.result ≡ record { firm = c.unpack_soft-firm.result.0; held = c.unpack_soft-firm.result.1 } =
    λ i. record { firm = sym c.unpack_soft-firm.ensures.firm i; held = sym c.unpack_soft-firm.ensures.held i } in
    subst P (ap read.Slots same)
    (subst Q c.requires.kind (c.load-word.ensures.2.0.plays at.pass c.args.call.now c.args.phase at.alone
    (under-way at.pass.state c.args.call.now c.args.phase at.stands c.requires.kind)))

pub returns-clause-sound : goal.returns-clause-sound
returns-clause-sound c =
    let at = c.requires.stands in
    let within = (c.load-word.ensures.2.0.within at.pass c.args.call.now c.args.phase at.alone
    (under-way at.pass.state c.args.call.now c.args.phase at.stands c.requires.kind)).room in
    omega (arith, within, c.unpack_soft-firm.ensures.firm, c.unpack_soft-firm.ensures.held, ap (λ (it : Settings). limit_at it c.args.call.now.server) at.settings)

pub soft_place_of-place-requires : goal.soft_place_of-place-requires
soft_place_of-place-requires c = groups-le c.args.self.now.settings c.args.self.now.ranges

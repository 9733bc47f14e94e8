use Rattle.std.proofs.Common.{arith, subst, sym, ap, ◌∙◌}
use Rattle.tko_steps.specs.declared.table.Action.{Action}
use Rattle.tko_steps.specs.Table.{action_of}
use Rattle.tko_table.specs.Steps.{Took, is_settle, read_in, view_of}
use Rattle.tko_table.proofs.StepTakenLemmas.{shift-loosen, shift-settle}
use Rattle.tko_table.proofs.ValueLemmas.{allows-loosen_of, allows-settle_of, soft-place-under}
use Rattle.tko_model.proofs.GroupLemmas.{group_of-lt, groups-le}
use Rattle.tko_table.proofs.words.Words.shift.Goals as goal

pub fetch_sub-requires : goal.fetch_sub-requires
fetch_sub-requires c =
    let words = c.args.self.now in
    let at = c.requires.stands in
    let is = shift-settle (action_of c.args.call.now.number c.args.phase)
    (ap is_settle (sym c.action.ensures) ∙ sym c.is_settle.ensures ∙ c.if-is_settle.true) in (
      c.requires.seat,
      omega (arith, words.count, c.soft_place_of-place.ensures, group_of-lt words.settings c.args.call.now.server words.ranges),
      allows-settle_of words.table.shared.key _ _ _ at.pass c.args.call.now c.args.phase c.slot_over_mark.result c.soft_place_of-place.result c.slot_over_mark.ensures
          (soft-place-under words.table.shared.key words.settings c.args.call.now.server c.soft_place_of-place.result words.key c.soft_place_of-place.ensures)
          at.alone at.stands is,
    )

pub fetch_add-requires : goal.fetch_add-requires
fetch_add-requires c =
    let words = c.args.self.now in
    let at = c.requires.stands in
    let is = shift-loosen (action_of c.args.call.now.number c.args.phase) c.requires.kind
    (ap is_settle (sym c.action.ensures) ∙ sym c.is_settle.ensures ∙ c.if-is_settle.false) in (
      c.requires.seat,
      omega (arith, words.count, c.soft_place_of-place.ensures, group_of-lt words.settings c.args.call.now.server words.ranges),
      allows-loosen_of words.table.shared.key _ _ _ at.pass c.args.call.now c.args.phase c.slot_over_mark-else-is_settle.result c.soft_place_of-place.result c.slot_over_mark-else-is_settle.ensures
          (soft-place-under words.table.shared.key words.settings c.args.call.now.server c.soft_place_of-place.result words.key c.soft_place_of-place.ensures)
          at.alone at.stands is,
    )

pub returns-then-is_settle-clause-step : goal.returns-then-is_settle-clause-step
returns-then-is_settle-clause-step c =
    let at = c.requires.stands in
    let is = shift-settle (action_of c.args.call.now.number c.args.phase)
    (ap is_settle (sym c.action.ensures) ∙ sym c.is_settle.ensures ∙ c.if-is_settle.true) in
    let Q : Action → Type 0 = λ it.
    Took (view_of c.args.seat.now) c.args.call.now c.args.phase (read_in it c.fetch_sub.result) (view_of c.fetch_sub.new.seat) in
    subst Q is (c.fetch_sub.ensures.2.0 at.pass c.args.call.now c.args.phase at.alone at.stands)

pub returns-else-is_settle-clause-step : goal.returns-else-is_settle-clause-step
returns-else-is_settle-clause-step c =
    let at = c.requires.stands in
    let is = shift-loosen (action_of c.args.call.now.number c.args.phase) c.requires.kind
    (ap is_settle (sym c.action.ensures) ∙ sym c.is_settle.ensures ∙ c.if-is_settle.false) in
    let Q : Action → Type 0 = λ it.
    Took (view_of c.args.seat.now) c.args.call.now c.args.phase (read_in it c.fetch_add.result) (view_of c.fetch_add.new.seat) in
    subst Q is (c.fetch_add.ensures.2.0 at.pass c.args.call.now c.args.phase at.alone at.stands)

pub soft_place_of-place-requires : goal.soft_place_of-place-requires
soft_place_of-place-requires c = groups-le c.args.self.now.settings c.args.self.now.ranges

use Rattle.std.proofs.Common.{arith, subst}
use Rattle.tko_steps.specs.declared.table.Action.{Action}
use Rattle.tko_table.specs.Steps.{Took, read_in, view_of}
use Rattle.tko_table.proofs.ValueLemmas.{allows-give_of, soft-place-under}
use Rattle.tko_model.proofs.GroupLemmas.{group_of-lt, groups-le}
use Rattle.tko_table.proofs.words.Words.give.Goals as goal

pub fetch_sub-requires : goal.fetch_sub-requires
fetch_sub-requires c =
    let words = c.args.self.now in
    let at = c.requires.stands in (
      c.requires.seat,
      omega (arith, words.count, c.soft_place_of-place.ensures, group_of-lt words.settings c.args.call.now.server words.ranges),
      allows-give_of words.table.shared.key _ _ _ at.pass c.args.call.now c.args.phase c.one_slot.result c.soft_place_of-place.result c.one_slot.ensures
          (soft-place-under words.table.shared.key words.settings c.args.call.now.server c.soft_place_of-place.result words.key c.soft_place_of-place.ensures) at.alone at.stands
          c.requires.kind,
    )

pub returns-clause-step : goal.returns-clause-step
returns-clause-step c =
    let at = c.requires.stands in
    let Q : Action → Type 0 = λ it.
    Took (view_of c.args.seat.now) c.args.call.now c.args.phase (read_in it c.fetch_sub.result) (view_of c.fetch_sub.new.seat) in
    subst Q c.requires.kind (c.fetch_sub.ensures.2.0 at.pass c.args.call.now c.args.phase at.alone at.stands)

pub soft_place_of-place-requires : goal.soft_place_of-place-requires
soft_place_of-place-requires c = groups-le c.args.self.now.settings c.args.self.now.ranges

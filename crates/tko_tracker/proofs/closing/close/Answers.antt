use Rattle.std.proofs.Common.{rules, ◌<◌, ◌∙◌, subst}
use Rattle.tko_model.specs.Groups.{groups}
use Rattle.tko_model.specs.Settings.{Settings}
use Rattle.tko_table.specs.Steps.{view_of}
use Rattle.tko_tracker.specs.Closing.{HoldsEachOnce, IsFinal}
use Rattle.tko_tracker.specs.Seated.{TrackerId, tracker_of}
use Rattle.tko_tracker.proofs.ClosingLemmas.{final-is, joined-length}
use Rattle.tko_tracker.proofs.closing.close.Goals as goal

pub close-requires-clause-all : goal.close-requires-clause-all
close-requires-clause-all c =
    let holds : HoldsEachOnce c.tracker.inside.words.settings.threads c.args.passes.items = search rules in
    joined-length c.args.passes.items (view_of c.joined-seat.result) c.joined-seat.ensures.joined ∙ holds.count

pub returns : goal.returns
returns c =
    let holds : HoldsEachOnce c.tracker.inside.words.settings.threads c.args.passes.items = search rules in
    let P : TrackerId → Type 0 = λ it. HoldsEachOnce it.settings.threads c.args.passes.items × IsFinal it c.args.passes.items c.close.result in
    subst P c.tracker.view_is (
      holds,
      final-is (tracker_of c.tracker.inside.words) c.args.passes.items (view_of c.joined-seat.result) c.close.result c.joined-seat.ensures.joined
          c.close.ensures.settings c.close.ensures.left,
    )

pub invariant_of-result : goal.invariant_of-result
invariant_of-result c =
    let same = c.close.ensures.settings in
    (λ group below. c.close.ensures.left.free group (subst (λ (it : Settings). group < groups it) same below), tt)

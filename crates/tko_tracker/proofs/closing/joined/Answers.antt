use Rattle.std.proofs.Common.{◌≡◌, ◌∷◌, ◌∙◌, ap, rules, subst}
use Rattle.std.specs.List.{All}
use Rattle.std.proofs.lemmas.List.Elements.{All-head}
use Rattle.std.specs.Vec.Iter.{into_iter_items}
use Rattle.tko_table.specs.Steps.{view_of}
use Rattle.tko_tracker.specs.Seated.{IsOf, Seated, tracker_of}
use Rattle.tko_tracker.proofs.ClosingLemmas.{gathered-start, gathered-step}
use Rattle.tko_tracker.proofs.closing.joined.Goals as goal

pub loop-pass-init : goal.loop-pass-init
loop-pass-init c =
    let next : c.args.passes.items ≡ c.in-Some.first ∷ into_iter_items c.into_iter-pass-iterator.result = search rules in
    let start = gathered-start (tracker_of c.args.words.now) c.args.passes.items _ c.first.inside.number c.first.inside.seat c.in-Some.first
    c.first.invariant c.first.view_is next c.requires.tracker in (tt, tt, start.0, start.1, start.2)

pub loop-pass-preserved : goal.loop-pass-preserved
loop-pass-preserved c =
    let i = c.loop-pass.invariant in
    let step = gathered-step (tracker_of c.args.words.now) c.args.passes.items _ _ (view_of c.loop-pass.seat) (view_of c.gather.new.seat)
    c.pass.inside.number c.pass.inside.seat c.in-Some-pass.pass i.2 c.pass.invariant c.pass.view_is c.in-Some-pass.ensures.steps.0
    c.gather.ensures.both i.4 in (tt, tt, step.0, c.gather.ensures.seat.0 ∙ i.3, step.1)

pub gather-requires-clause-other : goal.gather-requires-clause-other
gather-requires-clause-other c =
    let of_left = subst (All (IsOf (tracker_of c.args.words.now))) c.in-Some-pass.ensures.steps.0 c.loop-pass.invariant.4 in
    ap (λ (it : Seated). it.table) c.pass.view_is ∙ (All-head (IsOf (tracker_of c.args.words.now)) c.in-Some-pass.pass _ of_left).table

use Rattle.std.proofs.Common.{◌+◌, ◌++◌, ◌∷◌, [], ◌∙◌, ap}
use Rattle.tko_tracker.specs.Seated.{Seated}
use Rattle.tko_tracker.proofs.PassLemmas.{pass-made, seat-next}
use Rattle.tko_tracker.proofs.tracker.idle_passes.Goals as goal

pub idle_pass-requires-clause-seat : goal.idle_pass-requires-clause-seat
idle_pass-requires-clause-seat c =
    let words = c.args.words.now in
    let i = c.loop-seat.invariant in
    (seat-next words.settings words.table.shared.table_id _ c.loop-seat.number c.in-Some.seat _ _
    i.3 i.5 c.in-Some.ensures.steps.0 i.4).0

pub idle_pass-requires-clause-within : goal.idle_pass-requires-clause-within
idle_pass-requires-clause-within c =
    let words = c.args.words.now in
    let i = c.loop-seat.invariant in
    (seat-next words.settings words.table.shared.table_id _ c.loop-seat.number c.in-Some.seat _ _
    i.3 i.5 c.in-Some.ensures.steps.0 i.4).1

pub loop-seat-preserved : goal.loop-seat-preserved
loop-seat-preserved c =
    let words = c.args.words.now in
    let i = c.loop-seat.invariant in
    let pushed = c.in_ok-push.ensures.items ∙ ap (λ (it : Seated). c.loop-seat.passes.items ++ it ∷ []) c.idle_pass.ensures.same in
    let made = pass-made words.settings words.table.shared.table_id c.loop-seat.passes.items c.push.new.self.items c.in-Some.seat _ _
    i.2 i.3 i.5 c.in-Some.ensures.steps.0 pushed in (
      tt,
      tt,
      made.0,
      made.1,
      ap (λ n. n + 1) i.4 ∙ made.2,
      made.3,
    )

use Rattle.std.proofs.Common.{All, subst}
use Rattle.std.proofs.lemmas.List.Elements.{All-tail}
use Rattle.tko_threads.specs.declared.report.WorkerReport.{WorkerReport}
use Rattle.tko_tracker.specs.Seated.{IsOf, Seated}
use Rattle.tko_threads.proofs.lending.give_all.Goals as goal

pub loop-pass-preserved-in-Some : goal.loop-pass-preserved-in-Some
loop-pass-preserved-in-Some g c =
    let own : Seated × WorkerReport → Type 0 = λ one. IsOf g.N.Named.tracker one.0 in
    let left = subst (All own) c.in-Some.ensures.steps.0 c.loop-pass.invariant.2 in (tt, tt, All-tail own _ _ left)

pub loop-pass-preserved : goal.loop-pass-preserved
loop-pass-preserved g c =
    let own : Seated × WorkerReport → Type 0 = λ one. IsOf g.N.Named.tracker one.0 in
    let left = subst (All own) c.in-Some.ensures.steps.0 c.loop-pass.invariant.2 in (tt, tt, All-tail own _ _ left)

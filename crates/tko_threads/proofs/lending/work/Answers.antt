use Rattle.std.proofs.Common.{rules, ◌≡◌, ◌∙◌, ◌<◌, length, subst, sym}
use Rattle.std.specs.Prelude.{vec_len}
use Rattle.tko_threads.specs.declared.report.WorkerReport.{WorkerReport}
use Rattle.tko_tracker.specs.Seated.{IsOf, Seated}
use Rattle.tko_threads.proofs.LendingLemmas.{all_of_places}
use Rattle.tko_threads.proofs.lending.work.Goals as goal

pub give_all-requires : goal.give_all-requires
give_all-requires g c =
    let ended = c.in_ok-ended.ended in
    let own : Seated × WorkerReport → Type 0 = λ one. IsOf g.N.Named.tracker one.0 in
    let came : vec_len ended ≡ length ended.items = search rules in
    let began : vec_len c.args.members ≡ length c.args.members.items = search rules in
    let each = c.in_ok-ended.ensures.own in
    all_of_places own c.args.members.items ended.items (sym came ∙ c.in_ok-ended.ensures.number ∙ began)
    (λ place member one within. each place member one (subst (λ count. place < count) (sym came) within))

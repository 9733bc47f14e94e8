use Rattle.std.proofs.Common.{◌≡◌, ◌∙◌, List, sym, subst}
use Rattle.tko_runs.specs.States.{IsRunData}
use Rattle.tko_runs.specs.Orders.{IsLegalRun}
use Rattle.tko_runs.specs.Runs.{RunData, events_of}
use Rattle.tko_steps.specs.Runs.{Turn, run}
use Rattle.tko_model.proofs.RangeLemmas.{within_two}
use Rattle.tko_runs.proofs.AnswerLemmas.{runs_to_answers}
use Rattle.tko_runs.proofs.PlayLemmas.{IsLegalRun-named_by, IsRunData-named_by, run_data_of-played, turns-named_by}
use Rattle.tko_runs.proofs.playing.play.Goals as goal

pub finish-requires : goal.finish-requires
finish-requires c =
    let plan = c.args.schedule.now in
    let same =
    run_data_of-played c.args.schedule.now c.version.result c.in_ok-settings.settings c.in_ok-player.player
    c.version.ensures (c.in_ok-settings.ensures ∙ c.settings.ensures.value) c.in_ok-player.ensures in
    subst IsRunData (sym same) (IsRunData-named_by plan (within_two _ _ c.settings.ensures.plan.settings))

pub returns-clause-named : goal.returns-clause-named
returns-clause-named c =
    c.finish.ensures
    ∙ run_data_of-played c.args.schedule.now c.version.result c.in_ok-settings.settings c.in_ok-player.player
    c.version.ensures (c.in_ok-settings.ensures ∙ c.settings.ensures.value) c.in_ok-player.ensures

pub returns-clause-turns : goal.returns-clause-turns
returns-clause-turns c =
    let same = c.finish.ensures
    ∙ run_data_of-played c.args.schedule.now c.version.result c.in_ok-settings.settings c.in_ok-player.player
    c.version.ensures (c.in_ok-settings.ensures ∙ c.settings.ensures.value) c.in_ok-player.ensures in
    let P : RunData → Type 0 = λ it. (turns : List Turn) × (it.events ≡ events_of (run it.settings turns).past) in
    subst P (sym same) (turns-named_by c.args.schedule.now)

pub returns-clause-legal : goal.returns-clause-legal
returns-clause-legal c =
    let plan = c.args.schedule.now in
    let ranges = within_two _ _ c.settings.ensures.plan.settings in
    let same = c.finish.ensures
    ∙ run_data_of-played c.args.schedule.now c.version.result c.in_ok-settings.settings c.in_ok-player.player
    c.version.ensures (c.in_ok-settings.ensures ∙ c.settings.ensures.value) c.in_ok-player.ensures in
    subst IsLegalRun (sym same) (IsLegalRun-named_by plan ranges (λ turns. (c.every_run.ensures.calls plan.settings ranges turns).legal))

pub returns-clause-answered : goal.returns-clause-answered
returns-clause-answered c = runs_to_answers c.args.schedule.now (within_two _ _ c.settings.ensures.plan.settings)

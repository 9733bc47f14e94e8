use Rattle.std.proofs.Common.{⊎_elim, ap, rules, ◌≡◌, ◌∙◌, Some, None}
use Rattle.tko_model.specs.Ranges.{IsWithin, first_fault_in}
use Rattle.tko_runs.specs.Versions.{layout_of}
use Rattle.std.proofs.lemmas.Result.{err_from_is_err_and}
use Rattle.tko_runs.specs.ScheduleHeaders.{ScheduleHeader}
use Rattle.tko_runs.specs.Schedules.{plan_of}
use Rattle.tko_runs.proofs.HeaderLemmas.{is_fault, is_memory, passes}
use Rattle.tko_runs.proofs.PlayStepLemmas.{first_fault-within}
use Rattle.tko_runs.proofs.ScheduleLemmas.{reads-commands, reads-header, reads-long, reads-plan}
use Rattle.tko_runs.proofs.schedule.Schedule.read.Goals as goal

pub returns-then-bytes-gt-MAX_BYTES-clause-err : goal.returns-then-bytes-gt-MAX_BYTES-clause-err
returns-then-bytes-gt-MAX_BYTES-clause-err c = reads-long c.args.bytes.now c.if-bytes-gt-MAX_BYTES.true

pub returns-in_err-version-clause-err : goal.returns-in_err-version-clause-err
returns-in_err-version-clause-err c =
    let p = err_from_is_err_and c.from_residual.result c.from_residual.ensures.1 in
    rw (p.1, p.2) (passes _ _ _ (reads-header _ _ c.if-bytes-gt-MAX_BYTES.false) c.in_err-version.ensures.err)

pub returns-in_err-commands-clause-err : goal.returns-in_err-commands-clause-err
returns-in_err-commands-clause-err c =
    let p = err_from_is_err_and c.from_residual-in_err-commands.result c.from_residual-in_err-commands.ensures.1 in
    let head : ScheduleHeader = record { version = c.in_ok-version.version; settings = c.in_ok-version.settings } in
    rw (p.1, p.2) (
    ⊎_elim
    (is_memory _ _)
    (λ bad. is_fault _ _ (reads-commands _ _ head _ c.if-bytes-gt-MAX_BYTES.false c.in_ok-version.ensures.ok c.in_ok-version.ensures.rest (rw c.header_lines.ensures at bad)))
    c.in_err-commands.ensures.err
    )

pub returns-in-Err-clause-err : goal.returns-in-Err-clause-err
returns-in-Err-clause-err c =
    let head : ScheduleHeader = record { version = c.in_ok-version.version; settings = c.in_ok-version.settings } in
    let commands = c.in_ok-commands.commands.items in
    let found : first_fault_in (layout_of head.version) head.settings ≡ Some c.in-Err.outside =
    rw c.layout.ensures at ((c.check_in.ensures.err c.in-Err.outside).0 c.in-Err.is) in
    reads-plan _ _ head commands c.if-bytes-gt-MAX_BYTES.false c.in_ok-version.ensures.ok c.in_ok-version.ensures.rest
    (rw c.header_lines.ensures at c.in_ok-commands.ensures.ok)
    ∙ ap (λ outside. plan_of outside head commands) found

pub returns-clause-ok : goal.returns-clause-ok
returns-clause-ok c =
    let head : ScheduleHeader = record { version = c.in_ok-version.version; settings = c.in_ok-version.settings } in
    let commands = c.in_ok-commands.commands.items in
    let within : IsWithin c.layout.result head.settings = search rules in
    let found : first_fault_in (layout_of head.version) head.settings ≡ None =
    first_fault-within (layout_of head.version) head.settings (rw c.layout.ensures at within) in
    reads-plan _ _ head commands c.if-bytes-gt-MAX_BYTES.false c.in_ok-version.ensures.ok c.in_ok-version.ensures.rest
    (rw c.header_lines.ensures at c.in_ok-commands.ensures.ok)
    ∙ ap (λ outside. plan_of outside head commands) found

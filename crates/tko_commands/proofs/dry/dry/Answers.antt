use Rattle.std.proofs.Common.{Err, ap, rules}
use Rattle.std.proofs.lemmas.Result.{err_from_is_err_and}
use Rattle.tko_commands.specs.DryRuns.{words_in}
use Rattle.tko_commands.specs.Outcomes.{AllAsk, RefusesOutcomes}
use Rattle.tko_commands.proofs.DryLemmas.{begun, begun_reaches, is_dry, no_lines, not_configured, not_listed, not_opened, not_set, session_failed, trails_cut, untouched}
use Rattle.tko_commands.proofs.GroupedLemmas.{no_fault}
use Rattle.tko_commands.proofs.dry.dry.Goals as goal

pub returns-in_err-scripts-clause-err : goal.returns-in_err-scripts-clause-err
returns-in_err-scripts-clause-err g c =
    let p = err_from_is_err_and c.from_residual.result c.from_residual.ensures.1 in
    let bad : RefusesOutcomes (words_in c.args.options.now) c.in_err-scripts.field-0.0 = search rules in
    rw (p.1, p.2)
    (not_listed g.I.Inlet g.O.Outlet c.args.options.now (c.args.input.now, c.args.output.now)
    c.in_err-scripts.field-0.0 bad)

pub returns-in_err-config-clause-err : goal.returns-in_err-config-clause-err
returns-in_err-config-clause-err g c =
    let p = err_from_is_err_and c.from_residual-in_err-config.result c.from_residual-in_err-config.ensures.1 in
    let asked : AllAsk (words_in c.args.options.now) c.in_ok-scripts.scripts.items = search rules in
    rw (p.1, p.2)
    (not_configured g.I.Inlet g.O.Outlet c.args.options.now (c.args.input.now, c.args.output.now)
    c.in_ok-scripts.scripts.items c.in_err-config.field-0.0 asked c.in_err-config.ensures.err)

pub returns-in_err-settings-clause-err : goal.returns-in_err-settings-clause-err
returns-in_err-settings-clause-err g c =
    let p = err_from_is_err_and c.from_residual-in_err-settings.result c.from_residual-in_err-settings.ensures.1 in
    let asked : AllAsk (words_in c.args.options.now) c.in_ok-scripts.scripts.items = search rules in
    let none = rw c.servers.ensures at (rw c.settings.ensures at c.in_err-settings.ensures.err) in
    rw (p.1, p.2)
    (not_set g.I.Inlet g.O.Outlet c.args.options.now (c.args.input.now, c.args.output.now)
    c.in_ok-scripts.scripts.items c.in_ok-config.config c.in_err-settings.field-0.0 asked c.in_ok-config.ensures.ok none)

pub returns-in_err-tracker-clause-err : goal.returns-in_err-tracker-clause-err
returns-in_err-tracker-clause-err g c =
    let p = err_from_is_err_and c.from_residual-in_err-tracker.result c.from_residual-in_err-tracker.ensures.1 in
    let none = no_fault _ c.in_ok-settings.ensures.within in
    rw (p.1, p.2)
    (not_opened g.I.Inlet g.O.Outlet c.args.options.now (c.args.input.now, c.args.output.now) c.in_err-tracker.field-0.0
    (λ name is. let first = (c.in_err-tracker.ensures.settings name).0 (ap Err is) in absurd (cc (none, first))))

pub returns-in_err-parts-clause-err : goal.returns-in_err-parts-clause-err
returns-in_err-parts-clause-err g c =
    let p = err_from_is_err_and c.from_residual-in_err-parts.result c.from_residual-in_err-parts.ensures.1 in
    rw (p.1, p.2)
    (untouched g.I.Inlet g.O.Outlet c.args.options.now (c.args.input.now, c.args.output.now))

pub serve-requires : goal.serve-requires
serve-requires g c =
    let asked : AllAsk (words_in c.args.options.now) c.in_ok-scripts.scripts.items = search rules in
    let opens = rw c.servers.ensures at
    (rw c.settings.ensures at (rw c.in_ok-settings.ensures.ok at c.in_ok-tracker.ensures.ok)) in
    let begins = begun c.args.options.now c.in_ok-scripts.scripts.items c.in_ok-config.config c.in_ok-tracker.tracker
    c.in_ok-parts.parts asked c.in_ok-config.ensures.ok opens c.in_ok-parts.ensures in
    record { reach = begun_reaches c.args.options.now c.in_ok-parts.parts begins }

pub returns-in_err-serve-clause-err : goal.returns-in_err-serve-clause-err
returns-in_err-serve-clause-err g c =
    let p = err_from_is_err_and c.from_residual-in_err-serve.result c.from_residual-in_err-serve.ensures.1 in
    let asked : AllAsk (words_in c.args.options.now) c.in_ok-scripts.scripts.items = search rules in
    let opens = rw c.servers.ensures at
    (rw c.settings.ensures at (rw c.in_ok-settings.ensures.ok at c.in_ok-tracker.ensures.ok)) in
    let begins = begun c.args.options.now c.in_ok-scripts.scripts.items c.in_ok-config.config c.in_ok-tracker.tracker
    c.in_ok-parts.parts asked c.in_ok-config.ensures.ok opens c.in_ok-parts.ensures in
    rw (p.1, p.2)
    (session_failed g.I.Inlet g.O.Outlet c.args.options.now c.in_err-serve.field-0.0 _ _ _ _ _ _ begins
    c.in_err-serve.ensures.ends)

pub returns-in_err-lines-clause-err : goal.returns-in_err-lines-clause-err
returns-in_err-lines-clause-err g c =
    let p = err_from_is_err_and c.from_residual-in_err-lines.result c.from_residual-in_err-lines.ensures.1 in
    let asked : AllAsk (words_in c.args.options.now) c.in_ok-scripts.scripts.items = search rules in
    let opens = rw c.servers.ensures at
    (rw c.settings.ensures at (rw c.in_ok-settings.ensures.ok at c.in_ok-tracker.ensures.ok)) in
    let begins = begun c.args.options.now c.in_ok-scripts.scripts.items c.in_ok-config.config c.in_ok-tracker.tracker
    c.in_ok-parts.parts asked c.in_ok-config.ensures.ok opens c.in_ok-parts.ensures in
    rw (p.1, p.2)
    (no_lines g.I.Inlet g.O.Outlet c.args.options.now _ _ _ _ _ _ _ begins c.in_ok-serve.ensures.ends.0
    c.in_ok-serve.ensures.ends.1 (search rules))

pub returns-in_err-write_text-clause-err : goal.returns-in_err-write_text-clause-err
returns-in_err-write_text-clause-err g c =
    let p = err_from_is_err_and c.from_residual-in_err-write_text.result c.from_residual-in_err-write_text.ensures.1 in
    let asked : AllAsk (words_in c.args.options.now) c.in_ok-scripts.scripts.items = search rules in
    let opens = rw c.servers.ensures at
    (rw c.settings.ensures at (rw c.in_ok-settings.ensures.ok at c.in_ok-tracker.ensures.ok)) in
    let begins = begun c.args.options.now c.in_ok-scripts.scripts.items c.in_ok-config.config c.in_ok-tracker.tracker
    c.in_ok-parts.parts asked c.in_ok-config.ensures.ok opens c.in_ok-parts.ensures in
    rw (p.1, p.2)
    (trails_cut g.I.Inlet g.O.Outlet c.args.options.now _ _ _ _ _ _ _ _ begins c.in_ok-serve.ensures.ends.0
    c.in_ok-serve.ensures.ends.1 (search rules) (search rules) c.in_err-write_text.ensures.err)

pub returns-then-not-options-clause-ok : goal.returns-then-not-options-clause-ok
returns-then-not-options-clause-ok g c =
    let asked : AllAsk (words_in c.args.options.now) c.in_ok-scripts.scripts.items = search rules in
    let opens = rw c.servers.ensures at
    (rw c.settings.ensures at (rw c.in_ok-settings.ensures.ok at c.in_ok-tracker.ensures.ok)) in
    let begins = begun c.args.options.now c.in_ok-scripts.scripts.items c.in_ok-config.config c.in_ok-tracker.tracker
    c.in_ok-parts.parts asked c.in_ok-config.ensures.ok opens c.in_ok-parts.ensures in
    is_dry g.I.Inlet g.O.Outlet c.args.options.now _ _ _ _ _ _ _ _ begins c.in_ok-serve.ensures.ends.0 (search rules)

pub returns-clause-ok : goal.returns-clause-ok
returns-clause-ok g c =
    let asked : AllAsk (words_in c.args.options.now) c.in_ok-scripts.scripts.items = search rules in
    let opens = rw c.servers.ensures at
    (rw c.settings.ensures at (rw c.in_ok-settings.ensures.ok at c.in_ok-tracker.ensures.ok)) in
    let begins = begun c.args.options.now c.in_ok-scripts.scripts.items c.in_ok-config.config c.in_ok-tracker.tracker
    c.in_ok-parts.parts asked c.in_ok-config.ensures.ok opens c.in_ok-parts.ensures in
    is_dry g.I.Inlet g.O.Outlet c.args.options.now _ _ _ _ _ _ _ _ begins c.in_ok-serve.ensures.ends.0 (search rules)

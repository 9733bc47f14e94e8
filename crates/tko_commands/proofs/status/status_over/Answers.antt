use Rattle.std.proofs.Common.{◌≡◌, ◌∙◌, Err, rules}
use Rattle.tko_commands.proofs.FaultLineLemmas.{err_as, told_as}
use Rattle.tko_commands.specs.declared.fault.Fault.TheVariants as fault
use Rattle.tko_commands.proofs.status.status_over.Goals as goal

pub returns-in-Err-Config-clause-fault : goal.returns-in-Err-Config-clause-fault
returns-in-Err-Config-clause-fault g c = λ is.
    let cause = fault.Config c.in-Err-Config.cause in
    told_as g.F.Outlet.takes g.F.Outlet.failures (λ it. it ≡ cause) (λ it. c.args.done ≡ Err it)
    c.args.faults.now c.refuse_config.new.faults
    (λ it same. err_as c.args.done cause it (search rules) same)
    c.refuse_config.ensures.fault

pub returns-in-Err-Settings-clause-fault : goal.returns-in-Err-Settings-clause-fault
returns-in-Err-Settings-clause-fault g c = λ is.
    let cause = fault.Settings c.in-Err-Settings.outside in
    told_as g.F.Outlet.takes g.F.Outlet.failures (λ it. it ≡ cause) (λ it. c.args.done ≡ Err it)
    c.args.faults.now c.refuse_settings.new.faults
    (λ it same. err_as c.args.done cause it (search rules) same)
    c.refuse_settings.ensures.fault

pub returns-in-Err-KeysFile-clause-fault : goal.returns-in-Err-KeysFile-clause-fault
returns-in-Err-KeysFile-clause-fault g c = λ is.
    let cause = fault.KeysFile c.in-Err-KeysFile.unread in
    told_as g.F.Outlet.takes g.F.Outlet.failures (λ it. it ≡ cause) (λ it. c.args.done ≡ Err it)
    c.args.faults.now c.refuse_keys.new.faults
    (λ it same. err_as c.args.done cause it (search rules) same)
    c.refuse_keys.ensures.fault

pub returns-in_default-clause-fault : goal.returns-in_default-clause-fault
returns-in_default-clause-fault g c = λ is.
    let given : c.args.done ≡ c.in_default-1.done = search rules in
    told_as g.F.Outlet.takes g.F.Outlet.failures (λ it. c.in_default-1.done ≡ Err it) (λ it. c.args.done ≡ Err it)
    c.args.faults.now c.status_of.new.faults (λ it same. given ∙ same) (c.status_of.ensures.fault is)

use Rattle.std.proofs.Common.{◌≡◌, ◌∙◌, Err, rules}
use Rattle.tko_commands.proofs.FaultLineLemmas.{err_as, told_as}
use Rattle.tko_commands.specs.declared.fault.Fault.TheVariants as fault
use Rattle.tko_commands.proofs.status.status_of_check.Goals as goal

pub returns-in-Err-Against-clause-fault : goal.returns-in-Err-Against-clause-fault
returns-in-Err-Against-clause-fault g c = λ is.
    let cause = fault.Against c.in-Err-Against.cause in
    told_as g.F.Outlet.takes g.F.Outlet.failures (λ it. it ≡ cause) (λ it. c.args.done ≡ Err it)
    c.args.faults.now c.refuse_against.new.faults
    (λ it same. err_as c.args.done cause it (search rules) same)
    c.refuse_against.ensures.fault

pub returns-in_default-clause-fault : goal.returns-in_default-clause-fault
returns-in_default-clause-fault g c = λ is.
    let given : c.args.done ≡ c.in_default-1.done = search rules in
    told_as g.F.Outlet.takes g.F.Outlet.failures (λ it. c.in_default-1.done ≡ Err it) (λ it. c.args.done ≡ Err it)
    c.args.faults.now c.status_over.new.faults (λ it same. given ∙ same) (c.status_over.ensures.fault is)

use Rattle.std.proofs.Common.{◌≡◌, refl}
use Rattle.tko_commands.proofs.ReasonLemmas.{config_reason, told_with}
use Rattle.tko_commands.specs.declared.fault.Fault.TheVariants as fault
use Rattle.tko_commands.proofs.refusing.refuse_config.Goals as goal

pub returns-clause-fault : goal.returns-clause-fault
returns-clause-fault g c =
    told_with g.F.Outlet.takes g.F.Outlet.failures (λ it. it ≡ fault.Config c.args.cause)
    (fault.Config c.args.cause) c.args.faults.now c.write_config_reason.new.faults c.fail.new.faults refl
    (config_reason g.F.Outlet.takes g.F.Outlet.failures c.args.json.now c.args.cause c.args.faults.now
    c.write_config_reason.new.faults c.write_config_reason.ensures)
    c.fail.ensures.fault

use Rattle.std.proofs.Common.{◌≡◌, refl}
use Rattle.tko_commands.proofs.ReasonLemmas.{told_with}
use Rattle.tko_commands.specs.declared.fault.Fault.TheVariants as fault
use Rattle.tko_commands.proofs.refusing.refuse_delays.Goals as goal

pub returns-clause-fault : goal.returns-clause-fault
returns-clause-fault g c =
    told_with g.F.Outlet.takes g.F.Outlet.failures (λ it. it ≡ fault.Delays c.args.delays)
    (fault.Delays c.args.delays) c.args.faults.now c.write_delays_reason.new.faults c.fail.new.faults refl
    c.write_delays_reason.ensures c.fail.ensures.fault

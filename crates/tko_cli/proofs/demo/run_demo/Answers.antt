use Rattle.tko_cli.proofs.demo.run_demo.Goals as goal

pub returns-in-Err-clause-fault : goal.returns-in-Err-clause-fault
returns-in-Err-clause-fault g c =
    λ is. record { reason = c.in-Err.fault; known = c.in-Err.ensures.err; line = c.show_fault.ensures }

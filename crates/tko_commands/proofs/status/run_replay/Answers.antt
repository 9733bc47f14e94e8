use Rattle.std.proofs.Common.{◌≡◌, Err}
use Rattle.tko_commands.specs.Replays.{ReplayFails}
use Rattle.tko_commands.proofs.FaultLineLemmas.{of_err, of_ok, told_as}
use Rattle.tko_commands.proofs.status.run_replay.Goals as goal

pub returns-clause-replay : goal.returns-clause-replay
returns-clause-replay g c = λ is. of_ok c.replay-done.result (c.status_of.ensures.ok is) c.replay-done.ensures.ok

pub returns-clause-fault : goal.returns-clause-fault
returns-clause-fault g c = λ is.
    let fails = ReplayFails g.I.Inlet.gives g.I.Inlet.is_ended g.I.Inlet.failures g.O.Outlet.failures
    c.args.input.now c.replay-done.new.input c.args.output.now c.replay-done.new.output in
    told_as g.F.Outlet.takes g.F.Outlet.failures (λ fault. c.replay-done.result ≡ Err fault) fails
    c.args.faults.now c.status_of.new.faults
    (λ fault came. of_err fails c.replay-done.result fault came c.replay-done.ensures.err)
    (c.status_of.ensures.fault is)

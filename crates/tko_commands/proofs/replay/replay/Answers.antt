use Rattle.std.proofs.Common.{◌≡◌, Ok}
use Rattle.tko_runs.specs.Schedules.{reads}
use Rattle.tko_commands.specs.Replays.{IsPrintedReplay}
use Rattle.tko_commands.proofs.ReplayLemmas.{is_replay, replays}
use Rattle.tko_commands.proofs.replay.replay.Goals as goal

pub returns-clause-ok : goal.returns-clause-ok
returns-clause-ok g c =
    let text = c.in_ok-text.text.items in
    let printed = c.in_ok-printed.printed.items in
    let read : reads text ≡ Ok c.in_ok-schedule.schedule = rw c.deref.ensures.value at c.in_ok-schedule.ensures.ok in
    let replay : IsPrintedReplay text printed =
    is_replay _ _ _ _ _ read c.in_ok-run.ensures.named c.in_ok-order.ensures.order c.in_ok-printed.ensures in
    replays g.I.Inlet.gives g.I.Inlet.is_ended g.O.Outlet.takes _ _ _ _ text printed c.in_ok-text.ensures.ok replay
    (rw c.deref-2.ensures.value at c.in_ok-write_text.ensures.ok)

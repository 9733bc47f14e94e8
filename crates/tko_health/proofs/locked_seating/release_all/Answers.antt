use Rattle.std.proofs.Common.{rules}
use Rattle.tko_health.proofs.LockedLemmas.{none_before, seat_released}
use Rattle.tko_health.proofs.SeatingLemmas.{releases_more, releases_none}
use Rattle.tko_health.proofs.locked_seating.release_all.Goals as goal

pub loop-server-init : goal.loop-server-init
loop-server-init g c = (none_before _, c.thread-thread.ensures.seat.servers, releases_none _)

pub loop-server-preserved : goal.loop-server-preserved
loop-server-preserved g c =
    let i = c.loop-server.invariant in
    let seat = seat_released c.release.ensures.step (search rules) i.1 i.0 in
    (seat.0, seat.1, releases_more i.2 c.release.ensures.step)

use Rattle.std.proofs.Common.{subst}
use Rattle.tko_health.specs.Health.{look_item}
use Rattle.tko_health.specs.Locked.{IsLockedStep, SeatState}
use Rattle.tko_health.proofs.LockedLemmas.{locked_look}
use Rattle.tko_health.proofs.locked_health.LockedHealthHealth.look_up.Goals as goal

pub returns-clause-step : goal.returns-clause-step
returns-clause-step g c =
    let P : SeatState → Type 0 = λ seat.
    IsLockedStep g.S.TrackerSettings.settings seat (look_item c.args.server c.look_up.result) c.look_up.new.seat in
    subst P c.self.view_is (locked_look c.look_up.ensures.found c.look_up.ensures.look c.look_up.ensures.seat)

use Rattle.tko_tracker.proofs.ClosingLemmas.{up-at-once}
use Rattle.tko_tracker.proofs.laws.opened_tracker_is_up.Goals as goal

pub returns : goal.returns
returns c = up-at-once

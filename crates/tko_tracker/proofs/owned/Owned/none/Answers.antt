use Rattle.tko_tracker.proofs.OwnedLemmas.{is_set-none}
use Rattle.tko_tracker.proofs.owned.Owned.none.Goals as goal

pub returns : goal.returns
returns c = is_set-none

use Rattle.tko_tracker.proofs.OwnedLemmas.{is_set-test}
use Rattle.tko_tracker.proofs.owned.Owned.has.Goals as goal

pub returns : goal.returns
returns c = is_set-test c.args.self.now.words c.args.server

use Rattle.tko_tracker.proofs.OwnedLemmas.{is_set-insert}
use Rattle.tko_tracker.proofs.owned.Owned.insert.Goals as goal

pub returns : goal.returns
returns c = is_set-insert c.args.self.now.words c.args.server c.args.self.now.count c.requires

use Rattle.tko_tracker.proofs.OwnedLemmas.{is_set-remove}
use Rattle.tko_tracker.proofs.owned.Owned.remove.Goals as goal

pub returns : goal.returns
returns c = is_set-remove c.args.self.now.words c.args.server c.args.self.now.count c.requires

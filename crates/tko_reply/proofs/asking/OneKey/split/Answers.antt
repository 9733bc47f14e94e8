use Rattle.tko_reply.proofs.AskingLemmas.{first_several}
use Rattle.tko_reply.proofs.asking.OneKey.split.Goals as goal

pub returns : goal.returns
returns c = first_several c.args.self.now.request c.args.waiting _ _ c.in_ok-left.ensures

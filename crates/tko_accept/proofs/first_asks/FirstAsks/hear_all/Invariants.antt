use Rattle.tko_accept.proofs.first_asks.FirstAsks.hear_all.Given as goal

abbrev pub decreases-loop-self : goal.decreases-loop-self
decreases-loop-self g l = l.self.missing

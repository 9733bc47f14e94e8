use Rattle.std.proofs.Common.{subst, sym}
use Rattle.tko_roster.specs.Rosters.{AreReady}
use Rattle.tko_roster.proofs.roster.Roster.visit.Goals as goal

pub returns-clause-ready : goal.returns-clause-ready
returns-clause-ready g c = λ number session is.
    let all = subst (AreReady g.S.Driven.ready) (sym c.self.view_is) c.requires.ready in
    g.met.S.Driven.stay_ready session c.self.inside.parts c.visit.new.parts
    (c.requires.stays c.self.inside.parts c.visit.new.parts c.visit.ensures.stays)
    (all number session is)

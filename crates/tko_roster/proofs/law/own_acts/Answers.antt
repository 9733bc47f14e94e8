use Rattle.tko_roster.proofs.RosterLemmas.{serves}
use Rattle.tko_roster.proofs.law.own_acts.Goals as goal

pub returns : goal.returns
returns g c = λ old items new gains. serves g.S.Driven.acts g.S.Driven.awaited old items new gains

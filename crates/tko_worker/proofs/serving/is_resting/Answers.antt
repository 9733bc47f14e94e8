use Rattle.std.proofs.Common.{◌∙◌, ap, sym}
use Rattle.std.specs.Prelude.{option_copied}
use Rattle.tko_roster.specs.Rosters.{session_at}
use Rattle.tko_worker.proofs.KeptLemmas.{found_at, kept_leaves}
use Rattle.tko_worker.proofs.serving.is_resting.Goals as goal

pub returns-in-Leaving-clause-rests : goal.returns-in-Leaving-clause-rests
returns-in-Leaving-clause-rests g c =
    kept_leaves (g.T.Talking.awaited, g.T.Talking.talk, g.L.Port.port) c.args.mux.now.roster.slots
    c.args.number c.in-Some.guest.now c.in-Leaving.field-0 c.requires
    (found_at (session_at c.args.mux.now.roster.slots c.args.number) c.in-Some.guest.now
    (sym (ap option_copied c.in-Some.is) ∙ c.get.ensures))
    c.in-Leaving.is

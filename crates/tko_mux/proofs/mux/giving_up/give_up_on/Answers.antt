use Rattle.std.proofs.Common.{ap, sym, ◌∙◌}
use Rattle.std.specs.Prelude.{option_copied}
use Rattle.tko_mux.proofs.OverdueLemmas.{gives_up_on}
use Rattle.tko_mux.proofs.mux.giving_up.give_up_on.Goals as goal

pub returns-clause-ok : goal.returns-clause-ok
returns-clause-ok g c =
    gives_up_on g.S.Asking.waits_for g.S.Asking.has_next c.args.roster.now c.args.server
    c.args.now c.args.it c.args.line.now c.give_up.new.self c.in-Some.client.now
    c.request_to.result.now c.give_up.result c.requires.overdue c.requires.may
    (sym c.get.ensures ∙ ap option_copied c.in-Some.is) c.request_to.ensures
    c.give_up.ensures.ok

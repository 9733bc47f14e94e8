use Rattle.std.proofs.Common.{ap, sym, ◌∙◌}
use Rattle.std.specs.Prelude.{option_copied}
use Rattle.std.proofs.lemmas.Bool.{OnTrue_from}
use Rattle.tko_mux.specs.Giving.{HasAnother}
use Rattle.tko_mux.proofs.mux.giving_up.may_go_on.Goals as goal

pub returns-in-Some-clause-yes : goal.returns-in-Some-clause-yes
returns-in-Some-clause-yes g c =
    OnTrue_from c.has_next_target.result
    (HasAnother g.S.Asking.has_next c.args.roster.now c.args.server c.args.number)
    (λ yes. record {
      client = c.in-Some.client.now;
      is_client = sym c.get.ensures ∙ ap option_copied c.in-Some.is;
      next = sym c.has_next_target.ensures ∙ yes;
    })

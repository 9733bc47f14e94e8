use Rattle.std.proofs.Common.{rules, sym, ap, ◌∙◌}
use Rattle.std.specs.Prelude.{option_copied}
use Rattle.tko_mux.proofs.mux.delivery.read_for.Goals as goal

pub returns : goal.returns
returns g c = record {
  lent = c.request_to.result.now;
  is_lent = (
    c.in-Some.client.now,
    sym c.get.ensures ∙ ap option_copied c.in-Some.is,
    c.request_to.ensures,
  );
  on = search rules;
}

use Rattle.std.proofs.Common.{rules, sym, ap, ◌∙◌}
use Rattle.std.specs.Prelude.{option_copied}
use Rattle.tko_mux.proofs.mux.push_for.Goals as goal

pub returns-in-Ok-clause-pushed : goal.returns-in-Ok-clause-pushed
returns-in-Ok-clause-pushed g c = record {
  client = c.in-Some.client.now;
  request = c.request-request.result.now;
  here = sym c.get.ensures ∙ ap option_copied c.in-Some.is;
  is_request = c.request-request.ensures;
  pushed = search rules;
}

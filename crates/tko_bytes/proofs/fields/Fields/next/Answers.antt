use Rattle.std.proofs.Common.{◌∙◌, sym, ap}
use Rattle.std.specs.Option.{option_copied}
use Rattle.tko_bytes.specs.Fields.{fields_in}
use Rattle.tko_bytes.proofs.FieldLemmas.{fields_in-none, fields_in-at, fields_in-last}
use Rattle.tko_bytes.proofs.fields.Fields.next.Goals as goal

pub returns-in_err-rest : goal.returns-in_err-rest
returns-in_err-rest c =
    rw c.from_residual.ensures
    (sym c.self.view_is ∙ ap (λ r. fields_in (option_copied r)) c.in_err-rest.was ∙ fields_in-none)

pub returns-in-Some : goal.returns-in-Some
returns-in-Some c =
    sym c.self.view_is
    ∙ ap (λ r. fields_in (option_copied r)) c.in_ok-rest.was
    ∙ fields_in-at c.in_ok-rest.rest.now c.in-Some.end c.in-Some.ensures

pub returns-in-None : goal.returns-in-None
returns-in-None c =
    sym c.self.view_is
    ∙ ap (λ r. fields_in (option_copied r)) c.in_ok-rest.was
    ∙ fields_in-last c.in_ok-rest.rest.now c.in-None.ensures

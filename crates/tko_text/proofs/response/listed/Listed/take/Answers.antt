use Rattle.std.proofs.Common.{List, ℕ, ◌≡◌, None, Some, ap, subst, sym, ◌∙◌}
use Rattle.tko_text.specs.declared.response.body.Value.{Value}
use Rattle.tko_text.specs.Places.{value_at, values_in}
use Rattle.tko_text.specs.Responses.{value_for}
use Rattle.tko_text.proofs.ListedLemmas.{none_of_key, other_values, value_of_key}
use Rattle.tko_text.proofs.response.listed.Listed.take.Goals as goal

pub returns-in_default-clause-ok : goal.returns-in_default-clause-ok
returns-in_default-clause-ok c =
    let text = c.self.inside.text in
    let places = c.self.inside.places.items in
    subst (λ (vs : List Value). None ≡ value_for c.args.key.now vs) c.self.view_is
    (subst (λ (key : List ℕ). None ≡ value_for key (values_in text places)) c.as_bytes.ensures.value
    (none_of_key text c.as_bytes.result.now places (sym c.in_default.is ∙ c.place_of.ensures)))

pub returns-clause-ok : goal.returns-clause-ok
returns-clause-ok c =
    let text = c.self.inside.text in
    let places = c.self.inside.places.items in
    let place = c.in-Some-remove.place in
    let value_is = c.shared_value.ensures ∙ ap (λ t. value_at t place) c.in_ok-text.ensures.cases in
    ap Some value_is
    ∙ subst (λ (vs : List Value). Some (value_at text place) ≡ value_for c.args.key.now vs) c.self.view_is
    (subst (λ (key : List ℕ). Some (value_at text place) ≡ value_for key (values_in text places)) c.as_bytes.ensures.value
    (value_of_key text c.as_bytes.result.now places c.in-Some.index place c.in-Some.ensures c.in-Some-remove.ensures.value))

pub returns-clause-others : goal.returns-clause-others
returns-clause-others c other differs =
    let text = c.self.inside.text in
    let places = c.self.inside.places.items in
    let left = c.remove.new.self.items in
    subst (λ (vs : List Value). value_for other (values_in text left) ≡ value_for other vs) c.self.view_is
    (other_values text c.as_bytes.result.now other places left c.in-Some.index c.in-Some-remove.place
    (λ same. differs (same ∙ c.as_bytes.ensures.value)) c.in-Some.ensures c.in-Some-remove.ensures.items)

use Rattle.std.proofs.Common.{◌≡◌, ◌++◌, ◌∙◌, ap, append_assoc, codes, refl, rules, sym}
use Rattle.std.proofs.lemmas.Result.{err_from_is_err_and}
use Rattle.tko_text.specs.ResponseFaults.{value_line}
use Rattle.tko_text.specs.Responses.{block}
use Rattle.tko_text.specs.Places.{keys_at}
use Rattle.tko_text.proofs.ListingFaultLemmas.{list_data_fault, list_line_fault, list_unawaited}
use Rattle.tko_text.proofs.ResponseLemmas.{value_split}
use Rattle.tko_text.proofs.response.list.next_value.Goals as goal

pub returns-in_err-word : goal.returns-in_err-word
returns-in_err-word c =
    let p = err_from_is_err_and c.from_residual.result c.from_residual.ensures.1 in
    rw (p.1, p.2) (list_line_fault c.args.keys.now c.args.unique (keys_at c.args.had.now) c.args.bytes.now c.in_err-word.field-0.0 c.in_err-word.ensures)

pub returns-in_default : goal.returns-in_default
returns-in_default c =
    let same : c.in_ok-word.word.now ≡ codes "VALUE" = search rules in
    list_unawaited c.args.keys.now c.args.unique (keys_at c.args.had.now) c.args.bytes.now (value_line c.in_ok-word.arguments.now) c.in_ok-word.rest.now
    (value_split c.args.bytes.now c.in_ok-word.word.now c.in_ok-word.arguments.now c.in_ok-word.rest.now same c.in_ok-word.ensures) refl
    c.in_default.ensures

pub returns-in_err-data : goal.returns-in_err-data
returns-in_err-data c =
    let p = err_from_is_err_and c.from_residual-in_err-data.result c.from_residual-in_err-data.ensures.1 in
    let same : c.in_ok-word.word.now ≡ codes "VALUE" = search rules in
    let head = c.in-Some.head in
    rw (p.1, p.2) (list_data_fault c.args.keys.now c.args.unique (keys_at c.args.had.now) c.args.bytes.now (value_line c.in_ok-word.arguments.now) c.in_ok-word.rest.now
    (value_split c.args.bytes.now c.in_ok-word.word.now c.in_ok-word.arguments.now c.in_ok-word.rest.now same c.in_ok-word.ensures) refl
    _ head.flags head.size head.unique c.in-Some.ensures.1 c.in-Some.ensures.2 c.in_err-data.field-0.0 c.in_err-data.ensures)

pub returns : goal.returns
returns c =
    let same : c.in_ok-word.word.now ≡ codes "VALUE" = search rules in
    let bytes = c.args.bytes.now in
    let stored = c.in_ok-data.data.now in
    let rest = c.in_ok-data.rest.now in
    let split = value_split bytes c.in_ok-word.word.now c.in_ok-word.arguments.now c.in_ok-word.rest.now same c.in_ok-word.ensures in (
      c.in-Some.ensures.0,
      record {
        first = split.0 ++ block stored;
        whole = split.2 ∙ ap (λ xs. split.0 ++ xs) c.in_ok-data.ensures.1 ∙ sym (append_assoc split.0 (block stored) rest);
        text = record {
          head = split.0;
          line = value_line c.in_ok-word.arguments.now;
          is_line = split.1;
          is_head = rw c.in_ok-data.ensures.0 c.in-Some.ensures.1;
          whole = refl;
        };
        few = c.in_ok-data.ensures.0;
        awaited = c.in-Some.ensures.2;
      },
    )

use Rattle.std.proofs.Common.{List, ℕ, refl, subst, sym, arith}
use Rattle.std.proofs.lemmas.Result.{err_from_is_err_and}
use Rattle.tko_bytes.proofs.NumberLemmas.{number_of-le}
use Rattle.tko_text.specs.Limits.{data_limit}
use Rattle.tko_text.specs.Heads.{value_of}
use Rattle.tko_text.specs.Responses.{Retrieval}
use Rattle.tko_text.specs.ResponseFaults.{NoHead, value_line}
use Rattle.tko_text.proofs.ResponseBodyLemmas.{no_head, end_fault, body_read}
use Rattle.tko_text.proofs.response.reader.find_value.Goals as goal

pub returns-in_default-clause-found : goal.returns-in_default-clause-found
returns-in_default-clause-found c =
    no_head c.args.key.now c.args.unique (value_line c.args.arguments.now) c.args.rest.now
    (subst (λ (k : List ℕ). NoHead (value_line c.args.arguments.now) k c.args.unique) c.as_bytes.ensures.value c.in_default.ensures)

pub returns-in_err-rest-clause-found : goal.returns-in_err-rest-clause-found
returns-in_err-rest-clause-found c =
    let p = err_from_is_err_and c.from_residual-in_err-rest.result c.from_residual-in_err-rest.ensures.1 in
    let head = c.in-Some.head in
    rw (p.1, p.2) (end_fault (Retrieval c.args.key.now c.args.unique) (value_line c.args.arguments.now) c.as_bytes.result.now
    head.flags head.size head.unique c.in-Some.ensures.1 (c.as_bytes.ensures.value, c.in-Some.ensures.0) c.in_err-rest.field-0.0
    c.args.rest.now c.in_ok-data.data.now c.in_ok-data.rest.now c.in_ok-data.ensures.0 c.in_ok-data.ensures.1 c.in_err-rest.ensures)

pub returns-clause-found : goal.returns-clause-found
returns-clause-found c =
    let head = c.in-Some.head in
    body_read (Retrieval c.args.key.now c.args.unique) (value_line c.args.arguments.now) c.as_bytes.result.now
    head.flags head.size head.unique c.in-Some.ensures.1 (c.as_bytes.ensures.value, c.in-Some.ensures.0)
    c.args.rest.now c.in_ok-data.data.now c.in_ok-data.rest.now c.in_ok-rest.rest.now
    (value_of c.args.key.now head c.in_ok-data.data.now) c.in_ok-data.ensures.0 c.in_ok-data.ensures.1
    c.in_ok-rest.ensures (sym c.as_bytes.ensures.value) refl refl refl

pub returns-clause-few : goal.returns-clause-few
returns-clause-few c =
    let is = c.in-Some.ensures.1 in
    let few = number_of-le data_limit is.size_word c.in-Some.head.size is.size_is in
    omega (arith, few, c.in_ok-data.ensures.0)

use Rattle.std.proofs.Common.{◌∙◌, sym, rules}
use Rattle.std.proofs.lemmas.Slice.Eq.{bytes_eq-Decides}
use Rattle.tko_bytes.proofs.NumberLemmas.{number_of-le}
use Rattle.tko_text.specs.Limits.{data_limit}
use Rattle.tko_text.specs.Responses.{Retrieval}
use Rattle.tko_text.proofs.ResponseLemmas.{value_split}
use Rattle.tko_text.proofs.ResponseLengthLemmas.{least_of_none, least_value}
use Rattle.tko_text.proofs.response.least.least_value.Goals as goal

pub returns-in_default : goal.returns-in_default
returns-in_default c = least_of_none (Retrieval c.args.key.now c.args.unique) c.args.bytes.now

pub overflow_add-result : goal.overflow_add-result
overflow_add-result c =
    let is = c.in-Some.ensures.1 in
    let few = number_of-le data_limit is.size_word c.in-Some.head.size is.size_is in
    search rules

pub overflow_add-result-in-Some : goal.overflow_add-result-in-Some
overflow_add-result-in-Some c =
    let is = c.in-Some.ensures.1 in
    let few = number_of-le data_limit is.size_word c.in-Some.head.size is.size_is in
    search rules

pub returns-in-Some : goal.returns-in-Some
returns-in-Some c =
    let same = (bytes_eq-Decides _ _).0 (sym c.if-eq.ensures) ∙ c.as_slice.ensures in
    let split = value_split c.args.bytes.now c.in-Ok.word.now c.in-Ok.arguments.now c.in-Ok.rest.now same c.in-Ok.ensures in
    least_value (Retrieval c.args.key.now c.args.unique) tt c.args.bytes.now c.in-Ok.arguments.now c.in-Ok.rest.now c.as_bytes.result.now
    c.in-Some.head.flags c.in-Some.head.size c.in-Some.head.unique split c.in-Some.ensures.1

pub returns-in-None : goal.returns-in-None
returns-in-None c = least_of_none (Retrieval c.args.key.now c.args.unique) c.args.bytes.now

pub returns : goal.returns
returns c = least_of_none (Retrieval c.args.key.now c.args.unique) c.args.bytes.now

use Rattle.std.proofs.Common.{refl}
use Rattle.std.proofs.lemmas.Bool.{both_ways}
use Rattle.std.proofs.lemmas.Result.{err_from_is_err_and}
use Rattle.tko_text.specs.ResponseLines.{Split}
use Rattle.tko_text.proofs.ListingReads.{error_missed, no_error}
use Rattle.tko_text.proofs.ResponseLineLemmas.{arguments_are_text}
use Rattle.tko_text.proofs.ResponseWordLemmas.{response_says}
use Rattle.tko_text.proofs.response.list.read_error.Goals as goal

pub whole_line-requires : goal.whole_line-requires
whole_line-requires c =
    arguments_are_text c.args.bytes.now (record { word = c.in_ok-word.word.now; rest = c.in_ok-word.arguments.now }) c.in_ok-word.rest.now c.in_ok-word.ensures

pub returns-in_err-response : goal.returns-in_err-response
returns-in_err-response c =
    let p = err_from_is_err_and c.from_residual-in_err-response.result c.from_residual-in_err-response.ensures.1 in
    rw (p.1, p.2) (error_missed c.args.bytes.now _ c.in_ok-word.rest.now c.in_ok-word.ensures c.in_err-response.field-0.0 c.in_err-response.ensures)

pub returns-then-not-is_error : goal.returns-then-not-is_error
returns-then-not-is_error c =
    let line : Split = record { word = c.in_ok-word.word.now; rest = c.in_ok-word.arguments.now } in
    no_error c.args.bytes.now line c.in_ok-word.rest.now c.in_ok-word.ensures c.in_ok-response.response c.in_ok-response.ensures
    (λ is. both_ways c.is_error.result c.if-not-is_error.true (c.is_error.ensures.1 is))

pub returns : goal.returns
returns c =
    let line : Split = record { word = c.in_ok-word.word.now; rest = c.in_ok-word.arguments.now } in
    record {
      line = line;
      rest = c.in_ok-word.rest.now;
      splits = c.in_ok-word.ensures;
      says = response_says line c.in_ok-response.response c.in_ok-response.ensures;
      is_error = c.is_error.ensures.0 c.if-not-is_error.false;
      len_is = refl;
    }

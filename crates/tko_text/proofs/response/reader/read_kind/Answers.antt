use Rattle.std.proofs.Common.{◌≢◌, ◌∙◌, codes, sym}
use Rattle.std.proofs.lemmas.Bool.{both_ways}
use Rattle.std.proofs.lemmas.Result.{err_from_is_err_and}
use Rattle.std.proofs.lemmas.Slice.Eq.{bytes_eq-Decides}
use Rattle.tko_text.specs.ResponseKinds.{kind_seen}
use Rattle.tko_text.specs.ResponseLines.{Split}
use Rattle.tko_text.proofs.ResponseLineLemmas.{arguments_are_text}
use Rattle.tko_text.proofs.ResponseWordLemmas.{response_says}
use Rattle.tko_text.proofs.RequestKindLemmas.{code_single}
use Rattle.tko_text.proofs.ResponseLemmas.{line_missed, line_unsuited, reads_line, reads_value, value_fault, value_split}
use Rattle.tko_text.proofs.response.reader.read_kind.Goals as goal

pub returns-in_err-value-clause-reads : goal.returns-in_err-value-clause-reads
returns-in_err-value-clause-reads c =
    let p = err_from_is_err_and c.from_residual-in_err-value.result c.from_residual-in_err-value.ensures.1 in
    let same = (bytes_eq-Decides _ _).0 (sym c.if-eq.ensures) ∙ c.as_slice.ensures in
    rw (p.1, p.2) (value_fault (kind_seen c.args.kind) (code_single c.args.kind) c.args.bytes.now c.in_ok-word.arguments.now c.in_ok-word.rest.now
    (value_split c.args.bytes.now c.in_ok-word.word.now c.in_ok-word.arguments.now c.in_ok-word.rest.now same c.in_ok-word.ensures)
    c.in_err-value.field-0.0 c.in_err-value.ensures)

pub returns-then-eq-clause-reads : goal.returns-then-eq-clause-reads
returns-then-eq-clause-reads c =
    let same = (bytes_eq-Decides _ _).0 (sym c.if-eq.ensures) ∙ c.as_slice.ensures in
    reads_value (kind_seen c.args.kind) (code_single c.args.kind) c.args.bytes.now c.in_ok-word.arguments.now c.in_ok-word.rest.now
    (value_split c.args.bytes.now c.in_ok-word.word.now c.in_ok-word.arguments.now c.in_ok-word.rest.now same c.in_ok-word.ensures)
    c.in_ok-value.rest.now c.in_ok-value.value c.in_ok-value.ensures

pub whole_line-requires : goal.whole_line-requires
whole_line-requires c =
    arguments_are_text c.args.bytes.now (record { word = c.in_ok-word.word.now; rest = c.in_ok-word.arguments.now }) c.in_ok-word.rest.now c.in_ok-word.ensures

pub returns-in_err-response-clause-reads : goal.returns-in_err-response-clause-reads
returns-in_err-response-clause-reads c =
    let p = err_from_is_err_and c.from_residual-in_err-response.result c.from_residual-in_err-response.ensures.1 in
    let other : c.in_ok-word.word.now ≢ codes "VALUE" =
    λ same. both_ways _ (sym c.if-eq.ensures) ((bytes_eq-Decides _ _).1 (same ∙ sym c.as_slice.ensures)) in
    rw (p.1, p.2) (line_missed (kind_seen c.args.kind) (code_single c.args.kind) c.args.bytes.now _ c.in_ok-word.rest.now c.in_ok-word.ensures
    c.in_err-response.field-0.0 other c.in_err-response.ensures)

pub returns-then-not-suits-clause-reads : goal.returns-then-not-suits-clause-reads
returns-then-not-suits-clause-reads c =
    let line : Split = record { word = c.in_ok-word.word.now; rest = c.in_ok-word.arguments.now } in
    let other : c.in_ok-word.word.now ≢ codes "VALUE" =
    λ same. both_ways _ (sym c.if-eq.ensures) ((bytes_eq-Decides _ _).1 (same ∙ sym c.as_slice.ensures)) in
    line_unsuited (kind_seen c.args.kind) (code_single c.args.kind) c.args.bytes.now line c.in_ok-word.rest.now c.in_ok-word.ensures c.in_ok-response.response other c.in_ok-response.ensures
    (λ fits. both_ways c.suits.result c.if-not-suits.true ((c.suits.ensures line (response_says line c.in_ok-response.response c.in_ok-response.ensures)).1 fits))

pub returns-clause-reads : goal.returns-clause-reads
returns-clause-reads c =
    let line : Split = record { word = c.in_ok-word.word.now; rest = c.in_ok-word.arguments.now } in
    reads_line (kind_seen c.args.kind) (code_single c.args.kind) c.args.bytes.now line c.in_ok-word.rest.now c.in_ok-word.ensures c.in_ok-response.response c.in_ok-response.ensures
    ((c.suits.ensures line (response_says line c.in_ok-response.response c.in_ok-response.ensures)).0 c.if-not-suits.false)

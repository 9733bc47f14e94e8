use Rattle.std.proofs.Common.{◌∙◌, List, ℕ, ◌-◌, ap, arith, length, length-append, subst, sym, Ok, Some, codes}
use Rattle.std.proofs.lemmas.Result.{err_from_is_err_and}
use Rattle.std.proofs.lemmas.Slice.Eq.{bytes_eq-Decides}
use Rattle.tko_text.specs.Heads.{value_of}
use Rattle.tko_text.specs.ResponseFaults.{ReadsOf, value_line}
use Rattle.tko_text.specs.ResponseLines.{IsData}
use Rattle.tko_text.specs.Responses.{Retrieval, block}
use Rattle.tko_text.specs.declared.response.Response.TheVariants.{Values}
use Rattle.tko_text.proofs.ResponseBodyLemmas.{placed}
use Rattle.tko_text.proofs.ResponseLemmas.{reads_value, value_fault, value_split}
use Rattle.tko_text.proofs.response.reader.place_of_value.Goals as goal

pub returns-in_err-head : goal.returns-in_err-head
returns-in_err-head c =
    let p = err_from_is_err_and c.from_residual-in_err-head.result c.from_residual-in_err-head.ensures.1 in
    let same = (bytes_eq-Decides _ _).0 (sym c.if-eq.ensures) ∙ c.as_slice.ensures in
    rw (p.1, p.2) (value_fault (Retrieval c.args.key.now c.args.unique) tt c.args.bytes.now c.in_ok-word.arguments.now c.in_ok-word.rest.now
    (value_split c.args.bytes.now c.in_ok-word.word.now c.in_ok-word.arguments.now c.in_ok-word.rest.now same c.in_ok-word.ensures)
    c.in_err-head.field-0.0 c.in_err-head.ensures.found)

pub returns-then-eq : goal.returns-then-eq
returns-then-eq c =
    let same = (bytes_eq-Decides _ _).0 (sym c.if-eq.ensures) ∙ c.as_slice.ensures in
    let bytes = c.args.bytes.now in
    let arguments = c.in_ok-word.arguments.now in
    let rest = c.in_ok-word.rest.now in
    let more = c.in_ok-head.rest.now in
    let head = c.in_ok-head.head in
    let stored = c.in_ok-head.field-0-1.now in
    let kind = Retrieval c.args.key.now c.args.unique in
    let split = value_split bytes c.in_ok-word.word.now arguments rest same c.in_ok-word.ensures in
    let goes = c.in_ok-head.ensures.found in
    let is = placed kind (value_line arguments) (value_line arguments) bytes rest more c.args.key.now head stored split goes c.in_ok-head.ensures.size in
    record {
      within = omega (
        arith,
        ap length split.2,
        length-append split.0 rest,
        ap length goes.1,
        length-append goes.0 more,
        ap length goes.2.whole,
        length-append (block stored) goes.2.last,
        length-append stored (codes "\r\n"),
        c.in_ok-head.ensures.size,
      );
      few = subst (λ (xs : List ℕ). IsData xs) is c.in_ok-head.ensures.few;
      reads = subst (λ (xs : List ℕ). ReadsOf kind bytes (Ok (Values (Some (value_of c.args.key.now head xs)), length bytes - length more))) is
          (reads_value kind tt bytes arguments rest split more (value_of c.args.key.now head stored) goes);
    }

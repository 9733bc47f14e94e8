use Rattle.std.proofs.Common.{◌≡◌, ◌++◌, refl}
use Rattle.std.specs.Prelude.{codes}
use Rattle.std.proofs.lemmas.Bool.Decides.{Decides-eqb}
use Rattle.std.proofs.lemmas.Slice.Eq.{strip_prefix_is}
use Rattle.tko_text.proofs.ResponseLineLemmas.{end_line}
use Rattle.tko_text.proofs.response.reader.split_end.Goals as goal

pub returns-in-Some : goal.returns-in-Some
returns-in-Some c =
    let at = strip_prefix_is Decides-eqb c.args.bytes.now (codes "END\r\n") _ c.strip_prefix.ensures.cases in
    let is : c.args.bytes.now ≡ codes "END\r\n" ++ c.in-Some.rest.now = rw c.in-Some.is at at in
    (codes "END\r\n", record { line = _; is_line = end_line; says = (refl, refl) }, is)

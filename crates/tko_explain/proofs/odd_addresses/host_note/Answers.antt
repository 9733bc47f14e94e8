use Rattle.std.proofs.lemmas.Result.{IfOk-weaker}
use Rattle.tko_explain.specs.OddAddresses.{Bracketed}
use Rattle.tko_explain.proofs.odd_addresses.host_note.Goals as goal

pub returns-in-Some : goal.returns-in-Some
returns-in-Some c =
    IfOk-weaker c.bracket_note.result _ _
    (λ note is. Bracketed c.in-Some.inside.now (rw c.as_bytes.ensures.value at c.in-Some.ensures) is)
    c.bracket_note.ensures

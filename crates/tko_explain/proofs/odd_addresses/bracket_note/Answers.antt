use Rattle.std.proofs.Common.{subst, sym}
use Rattle.std.proofs.lemmas.Result.{IfOk-weaker}
use Rattle.std.specs.Net.Grammar.{IsIpv6Text}
use Rattle.tko_explain.specs.OddAddresses.{Ipv6, Other}
use Rattle.tko_explain.proofs.odd_addresses.bracket_note.Goals as goal

pub returns-in-Ok : goal.returns-in-Ok
returns-in-Ok c =
    Ipv6 (c.in-Ok.field-0, subst (λ text. IsIpv6Text text c.in-Ok.field-0) c.before_zone.ensures c.in-Ok.ensures)
    c.new.ensures.items

pub returns-in-Err : goal.returns-in-Err
returns-in-Err c =
    IfOk-weaker c.brackets_line.result _ _
    (λ note is. Other (λ writes. c.in-Err.ensures writes.0
    (subst (λ text. IsIpv6Text text writes.0) (sym c.before_zone.ensures) writes.1)) is)
    c.brackets_line.ensures

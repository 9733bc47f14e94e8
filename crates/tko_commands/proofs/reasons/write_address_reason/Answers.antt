use Rattle.tko_commands.specs.Reasons.{IsAddressReason}
use Rattle.tko_commands.proofs.ReasonLemmas.{has_line}
use Rattle.tko_commands.proofs.reasons.write_address_reason.Goals as goal

pub returns-in-Ok : goal.returns-in-Ok
returns-in-Ok g c =
    has_line g.F.Outlet.takes g.F.Outlet.failures (IsAddressReason c.args.word.now c.args.cause.now c.args.address.now)
    c.args.faults.now c.write_text.new.outlet c.in-Ok.line.items c.write_text.result
    (rw c.words.ensures at c.in-Ok.ensures)
    (rw c.deref.ensures.value at c.write_text.ensures.ok) c.write_text.ensures.err

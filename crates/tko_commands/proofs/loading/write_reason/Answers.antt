use Rattle.tko_commands.specs.Reasons.{IsFileReason}
use Rattle.tko_commands.proofs.ReasonLemmas.{has_line}
use Rattle.tko_commands.proofs.loading.write_reason.Goals as goal

pub returns-in-Ok-reason_line : goal.returns-in-Ok-reason_line
returns-in-Ok-reason_line g c =
    has_line g.F.Outlet.takes g.F.Outlet.failures (IsFileReason c.args.path.now) c.args.faults.now c.write_text.new.outlet
    c.in-Ok-reason_line.line.items c.write_text.result
    (record { detail = c.as_str.result.now; is = c.in-Ok-reason_line.ensures })
    (rw c.deref.ensures.value at c.write_text.ensures.ok) c.write_text.ensures.err

use Rattle.std.proofs.Common.{rules}
use Rattle.tko_commands.specs.OutsideRanges.{IsRangeReason}
use Rattle.tko_commands.proofs.ReasonLemmas.{has_line, range_reason}
use Rattle.tko_commands.proofs.reasons.write_range_reason.Goals as goal

pub returns-in-Ok : goal.returns-in-Ok
returns-in-Ok g c =
    has_line g.F.Outlet.takes g.F.Outlet.failures (IsRangeReason c.args.outside) c.args.faults.now
    c.write_text.new.outlet c.in-Ok.line.items c.write_text.result
    (range_reason c.args.outside _ c.in-Ok.line.items (search rules) c.in-Ok.ensures)
    (rw c.deref.ensures.value at c.write_text.ensures.ok) c.write_text.ensures.err

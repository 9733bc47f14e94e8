use Rattle.std.proofs.Common.{◌≡◌, ◌≤◌, length, take}
use Rattle.tko_io.specs.Io.{Writes}
use Rattle.tko_io.proofs.writing.write_all.Given as goal

abbrev pub invariant-loop : goal.invariant-loop
invariant-loop g l =
    (l.at ≤ length l.text) × Writes g.O.Outlet.takes (l.fn.writer, l.fn.written) (take l.at l.text) (l.writer, l.written)
    × (g.O.Outlet.failures l.writer ≡ g.O.Outlet.failures l.fn.writer)

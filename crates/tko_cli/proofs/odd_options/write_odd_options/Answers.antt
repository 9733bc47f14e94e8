use Rattle.tko_commands.proofs.ReasonLemmas.{has_line}
use Rattle.tko_cli.specs.Notices.{AreOptionNotes}
use Rattle.tko_cli.proofs.odd_options.write_odd_options.Goals as goal

pub returns-in-Ok : goal.returns-in-Ok
returns-in-Ok g c =
    has_line g.F.Outlet.takes g.F.Outlet.failures (AreOptionNotes c.args.options.now) c.args.outlet.now c.write_text.new.outlet
    c.in-Ok.text.items c.write_text.result c.in-Ok.ensures
    (rw c.deref.ensures.value at c.write_text.ensures.ok) c.write_text.ensures.err

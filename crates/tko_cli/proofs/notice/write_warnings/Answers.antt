use Rattle.tko_cli.proofs.NoticeLemmas.{warned}
use Rattle.tko_cli.proofs.notice.write_warnings.Goals as goal

pub returns-in-Ok : goal.returns-in-Ok
returns-in-Ok g c =
    warned g.F.Outlet.takes g.F.Outlet.failures c.args.json.now c.in-Ok.text.items c.args.outlet.now c.write_text.new.outlet
    c.write_text.result c.in-Ok.ensures.ok (rw c.deref.ensures.value at c.write_text.ensures.ok) c.write_text.ensures.err

use Rattle.tko_cli.proofs.NoticeLemmas.{one_notice}
use Rattle.tko_cli.proofs.serving.note_descriptors.Goals as goal

pub returns : goal.returns
returns g c =
    one_notice g.F.Outlet.takes g.F.Outlet.failures c.args.faults.now c.write_notice.new.outlet _
    c.write_notice.ensures

use Rattle.tko_cli.proofs.NoticeLemmas.{one_notice}
use Rattle.tko_cli.proofs.notice.write_notice_if.Goals as goal

pub returns-then-is_told : goal.returns-then-is_told
returns-then-is_told g c =
    one_notice g.F.Outlet.takes g.F.Outlet.failures c.args.outlet.now c.write_notice.new.outlet c.args.notice
    c.write_notice.ensures

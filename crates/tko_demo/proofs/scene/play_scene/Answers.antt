use Rattle.std.proofs.Common.{rules}
use Rattle.tko_demo.proofs.PlayLemmas.{on_ok_so}
use Rattle.tko_demo.proofs.SceneLemmas.{scene_shown}
use Rattle.tko_demo.proofs.scene.play_scene.Goals as goal

pub returns-clause-heard : goal.returns-clause-heard
returns-clause-heard g c =
    on_ok_so _ _ c.play.result
    (λ played. record { middle = c.wait_in.new.caller; waited = search rules; played = search rules })
    c.play.ensures.played

pub returns-clause-shown : goal.returns-clause-shown
returns-clause-shown g c =
    on_ok_so _ _ c.play.result
    (λ shown. scene_shown g.O.Outlet.takes g.O.Outlet.failures g.met.O.Outlet.goes_on c.args.scene c.as_bytes.result.now
    c.exchanges.result.now c.args.output.now c.write.new.output c.wait_in.new.output c.play.new.output
    (search rules) (search rules) c.in_ok-write.ensures.ok c.in_ok-wait_in.ensures.shown shown)
    c.play.ensures.shown

use Rattle.std.proofs.lemmas.Result.{IfErr-weaker}
use Rattle.tko_demo.proofs.PlayLemmas.{on_ok_so}
use Rattle.tko_demo.proofs.StoryLemmas.{later_stay_fails}
use Rattle.tko_cli.proofs.demo.demo.Goals as goal

pub returns-clause-ok : goal.returns-clause-ok
returns-clause-ok g c =
    on_ok_so _ _ c.finish.result
    (λ ended. record { middle = c.show_story.new.output; story = c.in_ok-show_story.ensures.ok.went; ended = ended })
    c.finish.ensures.ok

pub returns-clause-err : goal.returns-clause-err
returns-clause-err g c =
    IfErr-weaker c.finish.result _ _
    (λ reason fails. later_stay_fails g.I.Inlet.failures g.O.Outlet.failures c.args.input.now c.args.output.now
    c.show_story.new.output (c.finish.new.input, c.finish.new.output) reason c.in_ok-show_story.ensures.ok.calm fails)
    c.finish.ensures.err

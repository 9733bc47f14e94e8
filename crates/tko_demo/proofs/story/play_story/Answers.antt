use Rattle.std.proofs.Common.{◌∙◌}
use Rattle.std.proofs.lemmas.Result.{IfErr-weaker}
use Rattle.tko_demo.proofs.PlayLemmas.{on_ok_so}
use Rattle.tko_demo.proofs.StoryLemmas.{later_scene_fails, story_shown}
use Rattle.tko_demo.proofs.story.play_story.Goals as goal

pub returns-clause-played : goal.returns-clause-played
returns-clause-played g c =
    on_ok_so _ _ c.play_scene-3.result
    (λ back. record {
      after_start = c.play_scene.new.caller;
      after_gone = c.play_scene-2.new.caller;
      started = c.in_ok-play_scene.ensures.heard;
      gone = c.in_ok-play_scene-2.ensures.heard;
      back = back;
    })
    c.play_scene-3.ensures.heard

pub returns-clause-shown : goal.returns-clause-shown
returns-clause-shown g c =
    on_ok_so _ _ c.play_scene-3.result
    (λ back. story_shown g.O.Outlet.takes g.O.Outlet.failures g.met.O.Outlet.goes_on c.args.output.now
    c.play_scene.new.output c.play_scene-2.new.output c.play_scene-3.new.output
    c.in_ok-play_scene.ensures.shown c.in_ok-play_scene-2.ensures.shown back)
    c.play_scene-3.ensures.shown

pub returns-clause-err : goal.returns-clause-err
returns-clause-err g c =
    IfErr-weaker c.play_scene-3.result _ _
    (λ reason fails. later_scene_fails g.I.Inlet g.C.Outlet c.args.at.now.near.now c.args.at.now.far.now
    g.O.Outlet.failures c.args.output.now c.play_scene-2.new.output c.play_scene-3.new.output c.play_scene-3.new.caller
    reason (c.in_ok-play_scene-2.ensures.shown.calm ∙ c.in_ok-play_scene.ensures.shown.calm) fails)
    c.play_scene-3.ensures.err

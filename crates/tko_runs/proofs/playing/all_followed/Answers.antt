use Rattle.tko_runs.specs.Plays.{enrolled}
use Rattle.tko_runs.proofs.PlayLemmas.{followed-all, followed-more}
use Rattle.tko_runs.proofs.playing.all_followed.Goals as goal

pub loop-command-preserved : goal.loop-command-preserved
loop-command-preserved c =
    followed-more (enrolled c.args.schedule.now.settings) c.loop-command.player c.follow.new.self
    c.args.schedule.now.commands c.commands-command-items.result.now c.loop-command.command-index _
    c.commands-command-items.ensures.value c.loop-command-test.true c.loop-command.invariant c.in_ok-follow.ensures

pub returns : goal.returns
returns c =
    followed-all c.args.schedule.now c.commands-command-items.result.now c.loop-command.player c.loop-command.command-index
    c.commands-command-items.ensures.value c.loop-command-test.false c.loop-command.invariant

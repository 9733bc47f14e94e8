use Rattle.tko_runs.specs.Plays.{after_command}
use Rattle.tko_runs.specs.declared.schedule.command.Command.TheVariants.{Run}
use Rattle.tko_runs.proofs.AnswerLemmas.{run-answered, run-more, run-most, sees_call}
use Rattle.tko_runs.proofs.playing.player.Player.run.Goals as goal

pub returns-then-not-has_call : goal.returns-then-not-has_call
returns-then-not-has_call c =
    let none = sees_call _ _ c.args.thread c.self.view_is c.has_call.ensures c.if-not-has_call.true in
    run-answered c.loop.self (after_command c.args.self.now (Run c.args.thread)) c.args.thread _ none c.loop.invariant

pub loop-preserved : goal.loop-preserved
loop-preserved c =
    let calls = sees_call _ _ c.args.thread c.self.view_is c.has_call.ensures c.if-not-has_call.false in
    run-more c.loop.self c.steps.new.self (after_command c.args.self.now (Run c.args.thread)) c.args.thread c.loop.counter
    c.loop-test.true calls c.in_ok-steps.ensures c.loop.invariant

pub returns : goal.returns
returns c =
    run-most c.loop.self (after_command c.args.self.now (Run c.args.thread)) c.args.thread c.loop.counter
    c.loop-test.false c.loop.invariant

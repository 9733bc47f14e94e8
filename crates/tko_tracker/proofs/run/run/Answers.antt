use Rattle.std.proofs.Common.{◌∙◌, sym}
use Rattle.tko_tracker.proofs.RunStepLemmas.{answers, goes-on}
use Rattle.tko_tracker.proofs.run.run.Goals as goal

pub returns-in-Answers-clause-ran : goal.returns-in-Answers-clause-ran
returns-in-Answers-clause-ran c =
    let words = c.args.words.now in
    answers words.settings words.ranges c.args.number c.args.op c.args.server _ c.loop-reply.call c.loop-reply.phase _ c.loop-reply.invariant.0
    c.take_step-seen.result _ c.take_step-seen.ensures.step c.in-Answers.reply (sym c.in-Answers.ensures)

pub loop-reply-smaller : goal.loop-reply-smaller
loop-reply-smaller c =
    let words = c.args.words.now in
    (goes-on words.settings words.ranges c.args.number c.args.op c.args.server _ c.loop-reply.call c.loop-reply.phase _ c.loop-reply.invariant.0
    c.take_step-seen.result _ c.take_step-seen.ensures.step c.in-Goes.lost c.in-Goes.following (sym c.in-Goes.ensures)).1

pub loop-reply-preserved : goal.loop-reply-preserved
loop-reply-preserved c =
    let words = c.args.words.now in
    let seat = c.take_step-seen.ensures.seat in (
      (goes-on words.settings words.ranges c.args.number c.args.op c.args.server _ c.loop-reply.call c.loop-reply.phase _ c.loop-reply.invariant.0
          c.take_step-seen.result _ c.take_step-seen.ensures.step c.in-Goes.lost c.in-Goes.following (sym c.in-Goes.ensures)).0,
      seat.0 ∙ c.loop-reply.invariant.1,
      seat.1 ∙ c.loop-reply.invariant.2,
    )

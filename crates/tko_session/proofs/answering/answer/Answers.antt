use Rattle.std.proofs.Common.{subst, sym, ◌∙◌}
use Rattle.std.proofs.lemmas.Result.{err_from_is_err_and}
use Rattle.tko_prober.specs.Probers.{NoneMarked}
use Rattle.tko_reply.proofs.ReachLemmas.{noted_reach}
use Rattle.tko_session.specs.SessionState.{snapshot}
use Rattle.tko_session.proofs.AnsweredLemmas.{answered_none, answered_append, part_after}
use Rattle.tko_session.proofs.answering.answer.Goals as goal

pub loop-init : goal.loop-init
loop-init g c = (answered_none c.args.session.now c.args.parts.now, c.requires.settled.reach, λ begun none. begun, c.requires.settled.settled.between, λ owed. cc)

pub returns-in_err-end_item-in-Ok-clause-ends : goal.returns-in_err-end_item-in-Ok-clause-ends
returns-in_err-end_item-in-Ok-clause-ends g c =
    let p = err_from_is_err_and c.from_residual.result c.from_residual.ensures.1 in
    let ended = c.in_err-end_item-in-Ok.ensures.ends (snapshot c.loop.session c.loop.parts) c.in-Ok.ensures.ends.ends in
    rw p.1 (part_after c.loop.invariant.0 ended)

pub returns-in_err-end_item-in-Ok-clause-begun : goal.returns-in_err-end_item-in-Ok-clause-begun
returns-in_err-end_item-in-Ok-clause-begun g c = λ begun none.
    c.in_err-end_item-in-Ok.ensures.begun (λ unowed. subst NoneMarked (sym (c.in-Ok.ensures.ends.unowed unowed))
    (c.loop.invariant.2 begun (sym c.owes_round.ensures ∙ c.if-owes_round.false))) none

pub returns-in_err-end_item-in-Ok-clause-between : goal.returns-in_err-end_item-in-Ok-clause-between
returns-in_err-end_item-in-Ok-clause-between g c =
    record {
      between = c.in_err-end_item-in-Ok.ensures.work ∙ c.in-Ok.ensures.ends.between;
      reach = c.in_err-end_item-in-Ok.ensures.reach;
    }

pub loop-preserved : goal.loop-preserved
loop-preserved g c =
    let item = c.in-Ok.ensures.ends in
    let ended = c.in_ok-end_item-in-Ok.ensures in
    let more = rw c.in-More.is at (ended.ends (snapshot c.loop.session c.loop.parts) item.ends) in (
      answered_append c.loop.invariant.0 more,
      ended.reach,
      λ begun none. ended.begun (λ unowed. subst NoneMarked (sym (item.unowed unowed)) (c.loop.invariant.2 begun (sym c.owes_round.ensures ∙ c.if-owes_round.false))) none,
      ended.work ∙ item.between,
      ended.busy,
    )

pub returns-in-NeedsInput-clause-ends : goal.returns-in-NeedsInput-clause-ends
returns-in-NeedsInput-clause-ends g c =
    let last = rw c.in-NeedsInput.is at (c.in_ok-end_item-in-Ok.ensures.ends (snapshot c.loop.session c.loop.parts) c.in-Ok.ensures.ends.ends) in
    answered_append c.loop.invariant.0 last

pub returns-in-NeedsInput-clause-begun : goal.returns-in-NeedsInput-clause-begun
returns-in-NeedsInput-clause-begun g c = λ begun none.
    c.in_ok-end_item-in-Ok.ensures.begun (λ unowed. subst NoneMarked (sym (c.in-Ok.ensures.ends.unowed unowed))
    (c.loop.invariant.2 begun (sym c.owes_round.ensures ∙ c.if-owes_round.false))) none

pub returns-in-NeedsInput-clause-between : goal.returns-in-NeedsInput-clause-between
returns-in-NeedsInput-clause-between g c =
    record {
      between = c.in_ok-end_item-in-Ok.ensures.work ∙ c.in-Ok.ensures.ends.between;
      reach = c.in_ok-end_item-in-Ok.ensures.reach;
    }

pub returns-in-LineTooLong-clause-ends : goal.returns-in-LineTooLong-clause-ends
returns-in-LineTooLong-clause-ends g c =
    let last = rw c.in-LineTooLong.is at (c.in_ok-end_item-in-Ok.ensures.ends (snapshot c.loop.session c.loop.parts) c.in-Ok.ensures.ends.ends) in
    answered_append c.loop.invariant.0 last

pub returns-in-LineTooLong-clause-begun : goal.returns-in-LineTooLong-clause-begun
returns-in-LineTooLong-clause-begun g c = λ begun none.
    c.in_ok-end_item-in-Ok.ensures.begun (λ unowed. subst NoneMarked (sym (c.in-Ok.ensures.ends.unowed unowed))
    (c.loop.invariant.2 begun (sym c.owes_round.ensures ∙ c.if-owes_round.false))) none

pub returns-in-LineTooLong-clause-between : goal.returns-in-LineTooLong-clause-between
returns-in-LineTooLong-clause-between g c =
    record {
      between = c.in_ok-end_item-in-Ok.ensures.work ∙ c.in-Ok.ensures.ends.between;
      reach = c.in_ok-end_item-in-Ok.ensures.reach;
    }

pub returns-in-Quit-clause-ends : goal.returns-in-Quit-clause-ends
returns-in-Quit-clause-ends g c =
    let last = rw c.in-Quit.is at (c.in_ok-end_item-in-Ok.ensures.ends (snapshot c.loop.session c.loop.parts) c.in-Ok.ensures.ends.ends) in
    answered_append c.loop.invariant.0 last

pub returns-in-Quit-clause-begun : goal.returns-in-Quit-clause-begun
returns-in-Quit-clause-begun g c = λ begun none.
    c.in_ok-end_item-in-Ok.ensures.begun (λ unowed. subst NoneMarked (sym (c.in-Ok.ensures.ends.unowed unowed))
    (c.loop.invariant.2 begun (sym c.owes_round.ensures ∙ c.if-owes_round.false))) none

pub returns-in-Quit-clause-between : goal.returns-in-Quit-clause-between
returns-in-Quit-clause-between g c =
    record {
      between = c.in_ok-end_item-in-Ok.ensures.work ∙ c.in-Ok.ensures.ends.between;
      reach = c.in_ok-end_item-in-Ok.ensures.reach;
    }

pub returns-in-Err-clause-ends : goal.returns-in-Err-clause-ends
returns-in-Err-clause-ends g c = rw c.observe_drop.ensures (part_after c.loop.invariant.0 (c.in-Err.ensures.ends c.observe_drop.result).ends)

pub returns-in-Err-clause-begun : goal.returns-in-Err-clause-begun
returns-in-Err-clause-begun g c = λ begun none.
    rw c.observe_drop.ensures (subst NoneMarked (sym ((c.in-Err.ensures.ends c.observe_drop.result).unowed none))
    (c.loop.invariant.2 begun (sym c.owes_round.ensures ∙ c.if-owes_round.false)))

pub returns-in-Err-clause-between : goal.returns-in-Err-clause-between
returns-in-Err-clause-between g c =
    record {
      between = (c.in-Err.ensures.ends c.observe_drop.result).between;
      reach = rw c.observe_drop.ensures (noted_reach c.in-Err.dropped c.in-Err.ensures.reach);
    }

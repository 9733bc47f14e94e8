use Rattle.std.proofs.Common.{ap, drop, false, sym, take, ◌∙◌}
use Rattle.std.proofs.lemmas.List.{take-append-drop}
use Rattle.std.proofs.lemmas.Result.{err_from_is_err_and}
use Rattle.tko_session.proofs.EventLemmas.{begun_paid}
use Rattle.tko_session.specs.SessionState.{SessionState, snapshot}
use Rattle.tko_session.proofs.ReplyLemmas.{left_over}
use Rattle.tko_session.proofs.DeliverLemmas.{all_of, short_in_items, short_in_round, writer_failed}
use Rattle.tko_session.specs.AnswerEnds.{none_waits}
use Rattle.tko_session.proofs.serving.deliver.Goals as goal

pub write_replies-wrote-requires : goal.write_replies-wrote-requires
write_replies-wrote-requires g c = record { between = c.answer-answered.ensures.between.between }

pub run_owed_round-rounded-requires-clause-reach : goal.run_owed_round-rounded-requires-clause-reach
run_owed_round-rounded-requires-clause-reach g c = c.answer-answered.ensures.between.reach

pub run_owed_round-rounded-requires-clause-late : goal.run_owed_round-rounded-requires-clause-late
run_owed_round-rounded-requires-clause-late g c = none_waits c.write_replies-wrote.ensures.taken

pub returns-in_err-wrote-clause-ends : goal.returns-in_err-wrote-clause-ends
returns-in_err-wrote-clause-ends g c =
    let p = err_from_is_err_and c.from_residual.result c.from_residual.ensures.1 in
    let wrote = c.in_err-wrote.ensures in
    let run = rw wrote.others at c.run_owed_round-rounded.ensures.round in
    let text = c.answer-answered.new.session.outbox in
    let split = sym (take-append-drop wrote.ends.part.count text) in
    rw (p.1, p.2, wrote.ends.counted) (writer_failed (snapshot c.answer-answered.new.session c.answer-answered.new.parts)
    (take wrote.ends.part.count text) (drop wrote.ends.part.count text) c.answer-answered.result c.answer-answered.ensures.ends
    (record { ran = run.ran }) c.requires.outbox split wrote.ends.part.front (left_over wrote.ends.part.count text wrote.ends.part.within)
    wrote.ends.failed)

pub returns-in_err-wrote-clause-begun : goal.returns-in_err-wrote-clause-begun
returns-in_err-wrote-clause-begun g c = λ begun.
    begun_paid (c.answer-answered.ensures.begun begun) (rw c.in_err-wrote.ensures.others at c.run_owed_round-rounded.ensures.round)

pub returns-in_err-wrote-clause-between : goal.returns-in_err-wrote-clause-between
returns-in_err-wrote-clause-between g c =
    record {
      between = ap (λ s. s.work) c.run_owed_round-rounded.ensures.none_owed ∙ ap (λ s. s.work) c.in_err-wrote.ensures.others ∙ c.answer-answered.ensures.between.between;
      reach = c.run_owed_round-rounded.ensures.reach;
    }

pub returns-in_err-progress-clause-ends : goal.returns-in_err-progress-clause-ends
returns-in_err-progress-clause-ends g c =
    let p = err_from_is_err_and c.from_residual-in_err-progress.result c.from_residual-in_err-progress.ensures.1 in
    let wrote = c.in_ok-wrote.ensures in
    let run = rw wrote.others at c.run_owed_round-rounded.ensures.round in
    rw (p.1, p.2) (short_in_items c.in_err-progress.ensures.ends (record { ran = run.ran }) c.requires.outbox wrote.ends.all wrote.ends.calm)

pub returns-in_err-progress-clause-begun : goal.returns-in_err-progress-clause-begun
returns-in_err-progress-clause-begun g c = λ begun.
    begun_paid (c.answer-answered.ensures.begun begun) (rw c.in_ok-wrote.ensures.others at c.run_owed_round-rounded.ensures.round)

pub returns-in_err-progress-clause-between : goal.returns-in_err-progress-clause-between
returns-in_err-progress-clause-between g c =
    record {
      between = ap (λ s. s.work) c.run_owed_round-rounded.ensures.none_owed ∙ ap (λ s. s.work) c.in_ok-wrote.ensures.others ∙ c.answer-answered.ensures.between.between;
      reach = c.run_owed_round-rounded.ensures.reach;
    }

pub returns-in_err-rounded-clause-ends : goal.returns-in_err-rounded-clause-ends
returns-in_err-rounded-clause-ends g c =
    let p = err_from_is_err_and c.from_residual-in_err-rounded.result c.from_residual-in_err-rounded.ensures.1 in
    let wrote = c.in_ok-wrote.ensures in
    let run = rw wrote.others at c.in_err-rounded.ensures.round in
    rw (p.1, p.2) (short_in_round c.in_ok-progress.ensures.ends (record { ran = run.ran }) c.requires.outbox wrote.ends.all wrote.ends.calm)

pub returns-in_err-rounded-clause-begun : goal.returns-in_err-rounded-clause-begun
returns-in_err-rounded-clause-begun g c = λ begun.
    begun_paid (c.answer-answered.ensures.begun begun) (rw c.in_ok-wrote.ensures.others at c.run_owed_round-rounded.ensures.round)

pub returns-in_err-rounded-clause-between : goal.returns-in_err-rounded-clause-between
returns-in_err-rounded-clause-between g c =
    record {
      between = ap (λ s. s.work) c.run_owed_round-rounded.ensures.none_owed ∙ ap (λ s. s.work) c.in_ok-wrote.ensures.others ∙ c.answer-answered.ensures.between.between;
      reach = c.run_owed_round-rounded.ensures.reach;
    }

pub returns-clause-ends : goal.returns-clause-ends
returns-clause-ends g c =
    let wrote = c.in_ok-wrote.ensures in
    let run = rw wrote.others at c.in_ok-rounded.ensures.round in
    all_of c.in_ok-progress.ensures.ends (record { ran = run.ran }) c.requires.outbox wrote.ends.all wrote.ends.calm
    (c.run_owed_round-rounded.ensures.none_owed
    ∙ ap (λ (s : SessionState). record s { owes = false }) (wrote.others ∙ ap (λ out. record c.answer-answered.new.session { outbox = out }) wrote.taken))

pub returns-clause-begun : goal.returns-clause-begun
returns-clause-begun g c = λ begun.
    begun_paid (c.answer-answered.ensures.begun begun) (rw c.in_ok-wrote.ensures.others at c.run_owed_round-rounded.ensures.round)

pub returns-clause-between : goal.returns-clause-between
returns-clause-between g c =
    record {
      between = ap (λ s. s.work) c.run_owed_round-rounded.ensures.none_owed ∙ ap (λ s. s.work) c.in_ok-wrote.ensures.others ∙ c.answer-answered.ensures.between.between;
      reach = c.run_owed_round-rounded.ensures.reach;
    }

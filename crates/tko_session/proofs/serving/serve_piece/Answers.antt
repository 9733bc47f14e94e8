use Rattle.std.proofs.Common.{ap, Err, ◌∙◌}
use Rattle.std.proofs.lemmas.Result.{err_from_is_err_and}
use Rattle.tko_session.specs.SessionState.{fed_state}
use Rattle.tko_session.proofs.DeliverLemmas.{not_delivered}
use Rattle.tko_session.proofs.PieceLemmas.{all_append, all_none, not_taken, piece_stopped}
use Rattle.tko_session.proofs.serving.serve_piece.Goals as goal

pub returns-in_err-feed-clause-ends : goal.returns-in_err-feed-clause-ends
returns-in_err-feed-clause-ends g c =
    let p = err_from_is_err_and c.from_residual.result c.from_residual.ensures.1 in
    rw (p.1, p.2) (not_taken c.in_err-feed.field-0.0 (λ is. c.requires.reads (c.in_err-feed.ensures.failed.0 (ap Err is)))
    (not_delivered _ _ c.args.parts.now c.args.writer.now c.args.written.now (g.met.O.Outlet.nothing c.args.writer.now) c.requires.outbox c.requires.settled.settled.unowed))

pub returns-in_err-feed-clause-between : goal.returns-in_err-feed-clause-between
returns-in_err-feed-clause-between g c =
    record {
      between = ap (λ s. s.work) c.in_err-feed.ensures.err ∙ c.requires.settled.settled.between;
      reach = c.requires.settled.reach;
    }

pub loop-init : goal.loop-init
loop-init g c =
    let none = all_none (fed_state c.args.session.now c.args.piece.now) c.args.parts.now c.args.writer.now c.args.written.now
    (g.met.O.Outlet.nothing c.args.writer.now) c.requires.outbox c.requires.settled.settled.unowed in
    (rw c.in_ok-feed.ensures.ok none, c.requires.settled.reach, ap (λ s. s.work) c.in_ok-feed.ensures.ok ∙ c.requires.settled.settled.between, λ begun. begun)

pub deliver-requires-clause-settled : goal.deliver-requires-clause-settled
deliver-requires-clause-settled g c =
    record {
      settled = record { between = c.loop.invariant.2; unowed = c.loop.invariant.0.delivered.owes };
      reach = c.loop.invariant.1;
    }

pub returns-in_err-deliver-clause-ends : goal.returns-in_err-deliver-clause-ends
returns-in_err-deliver-clause-ends g c =
    let p = err_from_is_err_and c.from_residual-in_err-deliver.result c.from_residual-in_err-deliver.ensures.1 in
    rw (p.1, p.2) (piece_stopped g.met.O.Outlet.goes_on c.in_err-deliver.field-0.0 _ c.loop.invariant.0
    c.in_err-deliver.ensures.ends)

pub loop-preserved : goal.loop-preserved
loop-preserved g c =
    let more = rw c.in-More.is at c.in_ok-deliver.ensures.ends in (
      all_append g.met.O.Outlet.goes_on c.loop.invariant.0 more,
      c.in_ok-deliver.ensures.between.reach,
      c.in_ok-deliver.ensures.between.between,
      λ begun. c.in_ok-deliver.ensures.begun (c.loop.invariant.3 begun),
    )

pub returns-in-NeedsInput-clause-ends : goal.returns-in-NeedsInput-clause-ends
returns-in-NeedsInput-clause-ends g c =
    let last = rw c.in-NeedsInput.is at c.in_ok-deliver.ensures.ends in
    all_append g.met.O.Outlet.goes_on c.loop.invariant.0 last

pub returns-in-LineTooLong-clause-ends : goal.returns-in-LineTooLong-clause-ends
returns-in-LineTooLong-clause-ends g c =
    let last = rw c.in-LineTooLong.is at c.in_ok-deliver.ensures.ends in
    all_append g.met.O.Outlet.goes_on c.loop.invariant.0 last

pub returns-in-Quit-clause-ends : goal.returns-in-Quit-clause-ends
returns-in-Quit-clause-ends g c =
    let last = rw c.in-Quit.is at c.in_ok-deliver.ensures.ends in
    all_append g.met.O.Outlet.goes_on c.loop.invariant.0 last

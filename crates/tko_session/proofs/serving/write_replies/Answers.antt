use Rattle.std.proofs.Common.{◌≡◌, ◌∙◌, ap, rules, subst}
use Rattle.tko_reply.specs.Answering.{Extends}
use Rattle.tko_session.specs.SessionState.{SessionState}
use Rattle.tko_session.specs.Working.{Between}
use Rattle.tko_session.proofs.OutgoingLemmas.{may_between, outgoing_between, sent_between}
use Rattle.tko_session.proofs.ReplyLemmas.{writing, written_more, written_none, written_part}
use Rattle.tko_session.proofs.serving.write_replies.Goals as goal

pub loop-init : goal.loop-init
loop-init g c =
    written_none g.O.Outlet g.met.O.Outlet.goes_on (writing c.args.session.now c.args.writer.now c.args.written.now)
    (g.met.O.Outlet.nothing c.args.writer.now)

pub returns-then-not-write_all-clause-ends : goal.returns-then-not-write_all-clause-ends
returns-then-not-write_all-clause-ends g c =
    let state = c.loop.session in
    let between : state.work ≡ Between = ap (λ (s : SessionState). s.work) c.loop.invariant.others ∙ c.requires.between in
    let front = subst (Extends c.output-replies.result.now) (outgoing_between state between) c.output-replies.ensures.front in
    record {
      part = written_part g.O.Outlet g.met.O.Outlet.goes_on c.output-replies.result.now c.loop.invariant front
          (c.if-not-write_all.ensures.part);
      failed = search rules;
      counted = search rules;
    }

pub sent-requires : goal.sent-requires
sent-requires g c =
    let state = c.loop.session in
    record { may = may_between state _ (ap (λ (s : SessionState). s.work) c.loop.invariant.others ∙ c.requires.between) }

pub loop-preserved : goal.loop-preserved
loop-preserved g c =
    let state = c.loop.session in
    let between : state.work ≡ Between = ap (λ (s : SessionState). s.work) c.loop.invariant.others ∙ c.requires.between in
    let front = subst (Extends c.output-replies.result.now) (outgoing_between state between) c.output-replies.ensures.front in
    written_more g.O.Outlet g.met.O.Outlet.goes_on c.output-replies.result.now c.loop.invariant front
    c.if-not-write_all.ensures.all c.if-not-write_all.ensures.calm (c.sent.ensures.sent ∙ sent_between state _ between)

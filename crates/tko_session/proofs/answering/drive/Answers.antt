use Rattle.std.proofs.Common.{ap, map, refl, subst, sym, ◌∙◌}
use Rattle.std.specs.Prelude.{IsSome}
use Rattle.std.proofs.lemmas.Result.{err_from_is_err_and}
use Rattle.tko_route.specs.Calls.{Told}
use Rattle.tko_reply.specs.Ghosts.{parts_ghosts}
use Rattle.tko_reply.specs.Interactions.{with_health, with_noted}
use Rattle.tko_reply.specs.Answers.{Reaches}
use Rattle.tko_reply.proofs.InteractionLemmas.{gains_told}
use Rattle.tko_reply.proofs.ReachLemmas.{noted_reach, recorded_reach, told_reach}
use Rattle.tko_session.specs.Driven.{IsAwaiting, IsReadyFor, IsSessionReady, MayGoOn, WasDropped, WentOn}
use Rattle.tko_session.specs.SessionState.{SessionState, snapshot}
use Rattle.tko_session.specs.Working.{key_in}
use Rattle.tko_session.proofs.DrivenLemmas.{on_asks, on_at, on_began, on_refused, on_tried, past_on, past_told, read_on, same_ok, sent_on_after, taken_on}
use Rattle.tko_session.proofs.DroppedLemmas.{cut_ends, over_ends, over_there, past_lost, read_cut, sent_cut_after, stop_cut_after, taken_cut, unkept_cut, unrecorded_ends}
use Rattle.tko_session.proofs.answering.drive.Goals as goal

pub next-requires-clause-ready : goal.next-requires-clause-ready
next-requires-clause-ready g c =
    record {
      ready = subst (IsReadyFor c.args.parts.now.config c.args.session.now) (sym c.requires.settled.between) tt;
      may = subst MayGoOn (sym c.requires.settled.between) tt;
    }

pub returns-in_err-step-clause-ends : goal.returns-in_err-step-clause-ends
returns-in_err-step-clause-ends g c =
    let p = err_from_is_err_and c.from_residual.result c.from_residual.ensures.1 in
    let ghosts = parts_ghosts g.H.Health g.L.Links g.T.Trails g.C.Clock in
    let on = c.in_err-step.ensures.err in
    let parts = with_health c.next.new.health c.args.parts.now in
    let attempts = c.in_err-step.field-0.0 in
    rw (p.1, p.2) (cut_ends attempts parts (read_cut g.H.Health g.L.Links g.T.Trails g.C.Clock {old = snapshot c.args.session.now c.args.parts.now} (map Told on.items) attempts parts
    c.requires.settled on.is (gains_told ghosts on.gains)))

pub returns-in_err-step-clause-reach : goal.returns-in_err-step-clause-reach
returns-in_err-step-clause-reach g c = told_reach c.requires.reach c.in_err-step.ensures.servers

pub loop-init : goal.loop-init
loop-init g c =
    let ghosts = parts_ghosts g.H.Health g.L.Links g.T.Trails g.C.Clock in
    let on = c.in_ok-step.ensures.ok in (
      read_on g.H.Health g.L.Links g.T.Trails g.C.Clock {old = snapshot c.args.session.now c.args.parts.now} (map Told on.items)
          (with_health c.next.new.health c.args.parts.now) c.requires.settled c.requires.room on.is (gains_told ghosts on.gains),
      c.in_ok-step.ensures.ready,
      told_reach c.requires.reach c.in_ok-step.ensures.servers,
    )

pub returns-in-Refused-clause-ends : goal.returns-in-Refused-clause-ends
returns-in-Refused-clause-ends g c =
    let told = c.observe_refusal.ensures in
    over_there c.loop.session told.progress told.same
    (over_ends (on_refused c.in-Refused.is c.loop.invariant.0))

pub returns-in-Refused-clause-more : goal.returns-in-Refused-clause-more
returns-in-Refused-clause-more g c = λ is.
    (on_refused c.in-Refused.is c.loop.invariant.0).more
    (sym c.observe_refusal.ensures.progress ∙ same_ok _ _ _ refl is)

pub returns-in-At-clause-ends : goal.returns-in-At-clause-ends
returns-in-At-clause-ends g c =
    over_there c.loop.session refl c.observe_end.ensures
    (over_ends (on_at c.in-At.is c.loop.invariant.0))

pub returns-in-At-clause-more : goal.returns-in-At-clause-more
returns-in-At-clause-more g c = λ is. (on_at c.in-At.is c.loop.invariant.0).more (same_ok _ _ _ refl is)

pub send-requires-clause-lends : goal.send-requires-clause-lends
send-requires-clause-lends g c = subst (λ w. IsSome (key_in w)) (sym (on_asks c.in-Asks.is c.loop.invariant.0).at) refl

pub answered-requires-clause-ready : goal.answered-requires-clause-ready
answered-requires-clause-ready g c =
    record {
      ready = subst (λ config. IsSessionReady config c.loop.session) (sym (ap (λ parts. parts.config) c.in-Ok.ensures.others.others)) c.loop.invariant.1;
      awaiting = subst IsAwaiting (sym (on_asks c.in-Asks.is c.loop.invariant.0).at) tt;
    }

pub returns-in_err-step-in-Ok-clause-ends : goal.returns-in_err-step-in-Ok-clause-ends
returns-in_err-step-in-Ok-clause-ends g c =
    let p = err_from_is_err_and c.from_residual-in_err-step-in-Ok.result c.from_residual-in_err-step-in-Ok.ensures.1 in
    let ghosts = parts_ghosts g.H.Health g.L.Links g.T.Trails g.C.Clock in
    let out = on_asks c.in-Asks.is c.loop.invariant.0 in
    let came = c.in-Ok.ensures in
    let on = c.in_err-step-in-Ok.ensures.err in
    let attempts = c.in_err-step-in-Ok.field-0.0 in
    rw (p.1, p.2) (cut_ends attempts (with_health c.answered.new.health c.send.new.parts) (sent_cut_after g.H.Health g.L.Links g.T.Trails g.C.Clock {old = snapshot c.args.session.now c.args.parts.now} c.answered.new.health came.others.others
    c.requires.settled.unowed out (came.exchange out.sent.key (ap key_in out.at)) came.others.probes (on.is out.sent out.at) (gains_told ghosts on.gains)))

pub returns-in_err-step-in-Ok-clause-reach : goal.returns-in_err-step-in-Ok-clause-reach
returns-in_err-step-in-Ok-clause-reach g c = told_reach c.in-Ok.ensures.reach c.in_err-step-in-Ok.ensures.servers

pub loop-preserved-in-Ok : goal.loop-preserved-in-Ok
loop-preserved-in-Ok g c =
    let ghosts = parts_ghosts g.H.Health g.L.Links g.T.Trails g.C.Clock in
    let out = on_asks c.in-Asks.is c.loop.invariant.0 in
    let came = c.in-Ok.ensures in
    let then = c.in_ok-step-in-Ok.ensures in
    let on = then.ok in (
      sent_on_after g.H.Health g.L.Links g.T.Trails g.C.Clock c.answered.new.health came.others.others
          out (came.exchange out.sent.key (ap key_in out.at)) came.others.probes (on.is out.sent out.at) (gains_told ghosts on.gains),
      then.ready,
      told_reach came.reach then.servers,
    )

pub stop-requires : goal.stop-requires
stop-requires g c = record { awaiting = subst IsAwaiting (sym (on_asks c.in-Asks.is c.loop.invariant.0).at) tt }

pub returns-in-Err-clause-ends : goal.returns-in-Err-clause-ends
returns-in-Err-clause-ends g c =
    let out = on_asks c.in-Asks.is c.loop.invariant.0 in
    let came = c.in-Err.ensures in
    cut_ends c.stop.result c.send.new.parts (stop_cut_after g.H.Health g.L.Links g.T.Trails g.C.Clock {old = snapshot c.args.session.now c.args.parts.now} came.others.others
    c.requires.settled.unowed out (came.exchange out.sent.key (ap key_in out.at)) came.others.probes c.stop.ensures.dropped (c.stop.ensures.attempts out.sent out.at))

pub returns-in_err-observe_request-in-Began-clause-ends : goal.returns-in_err-observe_request-in-Began-clause-ends
returns-in_err-observe_request-in-Began-clause-ends g c =
    let p = err_from_is_err_and c.from_residual-in_err-observe_request-in-Began.result c.from_residual-in_err-observe_request-in-Began.ensures.1 in
    let told = c.in_err-observe_request-in-Began.ensures in
    rw (p.1, p.2) (unrecorded_ends _ c.requires.settled.unowed (on_began c.in-Began.is c.loop.invariant.0) told.session.attempts told.session.dropped told.err)

pub next-requires-in-Began-clause-ready : goal.next-requires-in-Began-clause-ready
next-requires-in-Began-clause-ready g c =
    let same = c.in_ok-observe_request-in-Began.ensures.session.same in
    let taken = on_began c.in-Began.is c.loop.invariant.0 in
    record {
      ready = subst (IsSessionReady c.loop.parts.config) (sym same) c.loop.invariant.1;
      may = subst (λ (s : SessionState). MayGoOn s.work) (sym (same ∙ taken.state)) tt;
    }

pub returns-in_err-step-in-Began-clause-ends : goal.returns-in_err-step-in-Began-clause-ends
returns-in_err-step-in-Began-clause-ends g c =
    let p = err_from_is_err_and c.from_residual-in_err-step-in-Began.result c.from_residual-in_err-step-in-Began.ensures.1 in
    let ghosts = parts_ghosts g.H.Health g.L.Links g.T.Trails g.C.Clock in
    let taken = on_began c.in-Began.is c.loop.invariant.0 in
    let told = c.in_ok-observe_request-in-Began.ensures in
    let on = c.in_err-step-in-Began.ensures.err in
    let parts = with_health c.next-in-Began.new.health (record c.loop.parts { trails = c.observe_request.new.trails }) in
    let attempts = c.in_err-step-in-Began.field-0.0 in
    rw (p.1, p.2) (cut_ends attempts parts (taken_cut g.H.Health g.L.Links g.T.Trails g.C.Clock {old = snapshot c.args.session.now c.args.parts.now} {now = snapshot c.loop.session c.loop.parts} (map Told on.items) attempts parts
    c.requires.settled.unowed taken
    (told.recorded _ (ap (λ (s : SessionState). key_in s.work) taken.state))
    (subst (λ (s : SessionState). WasDropped c.loop.parts.config s (map Told on.items) attempts c.next-in-Began.new.self) told.session.same on.is) (gains_told ghosts on.gains)))

pub loop-preserved-in-Began : goal.loop-preserved-in-Began
loop-preserved-in-Began g c =
    let ghosts = parts_ghosts g.H.Health g.L.Links g.T.Trails g.C.Clock in
    let taken = on_began c.in-Began.is c.loop.invariant.0 in
    let told = c.in_ok-observe_request-in-Began.ensures in
    let then = c.in_ok-step-in-Began.ensures in
    let on = then.ok in (
      taken_on g.H.Health g.L.Links g.T.Trails g.C.Clock {now = snapshot c.loop.session c.loop.parts} (map Told on.items)
          (with_health c.next-in-Began.new.health (record c.loop.parts { trails = c.observe_request.new.trails })) c.requires.settled.unowed c.requires.room taken
          (told.recorded _ (ap (λ (s : SessionState). key_in s.work) taken.state))
          (subst (λ (s : SessionState). WentOn c.loop.parts.config s (map Told on.items) c.in_ok-step-in-Began.step c.next-in-Began.new.self) told.session.same on.is) (gains_told ghosts on.gains),
      then.ready,
      told_reach (recorded_reach c.loop.invariant.2) then.servers,
    )

pub returns-in_err-observe_trail-in-Tried-clause-ends : goal.returns-in_err-observe_trail-in-Tried-clause-ends
returns-in_err-observe_trail-in-Tried-clause-ends g c =
    let p = err_from_is_err_and c.from_residual-in_err-observe_trail-in-Tried.result c.from_residual-in_err-observe_trail-in-Tried.ensures.1 in
    let told = c.in_err-observe_trail-in-Tried.ensures in
    rw (p.1, p.2) (cut_ends c.in_err-observe_trail-in-Tried.field-0.0 c.observe_trail.new.parts (unkept_cut g.H.Health g.L.Links g.T.Trails g.C.Clock {old = snapshot c.args.session.now c.args.parts.now} c.observe_trail.new.parts c.requires.settled.unowed (on_tried c.in-Tried.is c.loop.invariant.0)
    told.session.attempts told.session.dropped (told.noted ∙ ap (λ t. record (with_noted c.in-Tried.trail c.loop.parts) { trails = t }) told.err)))

pub returns-in_err-observe_trail-in-Tried-clause-reach : goal.returns-in_err-observe_trail-in-Tried-clause-reach
returns-in_err-observe_trail-in-Tried-clause-reach g c =
    subst (λ parts. Reaches g.H.Health.servers g.L.Links.servers parts) (sym c.in_err-observe_trail-in-Tried.ensures.noted)
    (recorded_reach (noted_reach c.in-Tried.trail c.loop.invariant.2))

pub next-requires-in-Tried-clause-ready : goal.next-requires-in-Tried-clause-ready
next-requires-in-Tried-clause-ready g c =
    let told = c.in_ok-observe_trail-in-Tried.ensures in
    let same = told.session.same in
    let tried = (on_tried c.in-Tried.is c.loop.invariant.0).tried in
    let ready = subst (IsSessionReady c.loop.parts.config) (sym same) c.loop.invariant.1 in
    record {
      ready = subst (λ config. IsSessionReady config c.observe_trail.new.session) (sym (ap (λ parts. parts.config) told.noted)) ready;
      may = subst (λ (s : SessionState). MayGoOn s.work) (sym same) (subst MayGoOn (sym tried.at) tt);
    }

pub returns-in_err-step-in-Tried-clause-ends : goal.returns-in_err-step-in-Tried-clause-ends
returns-in_err-step-in-Tried-clause-ends g c =
    let p = err_from_is_err_and c.from_residual-in_err-step-in-Tried.result c.from_residual-in_err-step-in-Tried.ensures.1 in
    let ghosts = parts_ghosts g.H.Health g.L.Links g.T.Trails g.C.Clock in
    let told = c.in_ok-observe_trail-in-Tried.ensures in
    let past = past_told g.H.Health g.L.Links g.T.Trails g.C.Clock (on_tried c.in-Tried.is c.loop.invariant.0) told.recorded told.noted told.session.same in
    let on = c.in_err-step-in-Tried.ensures.err in
    let parts = with_health c.next-in-Tried.new.health c.observe_trail.new.parts in
    let attempts = c.in_err-step-in-Tried.field-0.0 in
    rw (p.1, p.2) (cut_ends attempts parts (past_lost g.H.Health g.L.Links g.T.Trails g.C.Clock {old = snapshot c.args.session.now c.args.parts.now} (map Told on.items) attempts parts
    c.requires.settled.unowed past on.is (gains_told ghosts on.gains)))

pub returns-in_err-step-in-Tried-clause-reach : goal.returns-in_err-step-in-Tried-clause-reach
returns-in_err-step-in-Tried-clause-reach g c =
    let told = c.in_ok-observe_trail-in-Tried.ensures in
    told_reach (subst (λ parts. Reaches g.H.Health.servers g.L.Links.servers parts) (sym told.noted) (recorded_reach (noted_reach c.in-Tried.trail c.loop.invariant.2)))
    c.in_err-step-in-Tried.ensures.servers

pub loop-preserved : goal.loop-preserved
loop-preserved g c =
    let ghosts = parts_ghosts g.H.Health g.L.Links g.T.Trails g.C.Clock in
    let told = c.in_ok-observe_trail-in-Tried.ensures in
    let past = past_told g.H.Health g.L.Links g.T.Trails g.C.Clock (on_tried c.in-Tried.is c.loop.invariant.0) told.recorded told.noted told.session.same in
    let then = c.in_ok-step-in-Tried.ensures in
    let on = then.ok in (
      past_on g.H.Health g.L.Links g.T.Trails g.C.Clock (map Told on.items)
          (with_health c.next-in-Tried.new.health c.observe_trail.new.parts) c.requires.settled.unowed c.requires.room past on.is (gains_told ghosts on.gains),
      then.ready,
      told_reach (subst (λ parts. Reaches g.H.Health.servers g.L.Links.servers parts) (sym told.noted) (recorded_reach (noted_reach c.in-Tried.trail c.loop.invariant.2))) then.servers,
    )

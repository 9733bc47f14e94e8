use Rattle.std.proofs.Common.{ap, subst, sym, take, ◌∙◌}
use Rattle.tko_reply.specs.Asking.{BeginsAt}
use Rattle.tko_reply.specs.Standing.{asking}
use Rattle.tko_reply.proofs.HeldLemmas.{front_stays}
use Rattle.tko_session.specs.Driven.{IsReadyFor, IsSendOut, OutcomeDropped, OutcomeTaken, dropped}
use Rattle.tko_session.specs.SessionState.{SessionState}
use Rattle.tko_session.specs.Working.{key_work, work_at}
use Rattle.tko_session.proofs.CallLemmas.{awaits_same, dropped_again, going, key_of_work, outcome_dropped, outcome_taken}
use Rattle.tko_session.proofs.ReadyLemmas.{outcome_ready}
use Rattle.tko_session.proofs.session.Session.answered.Goals as goal

pub returns-in-Ok-clause-ok : goal.returns-in-Ok-clause-ok
returns-in-Ok-clause-ok g c =
    let same = c.self.view_is in
    let key = c.in-Key.field-0.key in
    let it-was = asking c.in-Sent.sent key in
    let aims = ap (λ (s : SessionState). s.targets) same in
    let found = sym c.replace.ensures.value ∙ c.in-Sent.is in
    let awaited = sym (ap (λ (s : SessionState). s.work) same) ∙ ap work_at c.in-Key.is ∙ ap (key_work key) found in
    going c.in-Ok.ensures.ok (λ calls goes it is.
    subst (λ a. OutcomeTaken c.args.config.now a c.args.outcome c.args.self.now calls c.go_to.result c.go_to.new.self)
    (awaits_same it-was it (sym awaited ∙ is))
    (outcome_taken c.args.outcome it-was c.in-Ok.stage c.answered.new.self calls _ _ _ _ _ _ _ _ goes (c.go_to.ensures.step _ (key_of_work _ _)) (c.go_to.ensures.went _ (key_of_work _ _))
    (c.as_slice-targets.ensures.value ∙ aims) (ap (λ (s : SessionState). s.outbox) same) (ap (λ (s : SessionState). s.reading) same)
    (ap (λ (s : SessionState). s.requests) same) (ap (λ (s : SessionState). s.owes) same) (ap (λ (s : SessionState). s.begin) same) aims))

pub returns-in-Ok-clause-ready : goal.returns-in-Ok-clause-ready
returns-in-Ok-clause-ready g c =
    let same = c.self.view_is in
    let key = c.in-Key.field-0.key in
    let it-was = asking c.in-Sent.sent key in
    let aims = ap (λ (s : SessionState). s.targets) same in
    let found = sym c.replace.ensures.value ∙ c.in-Sent.is in
    let awaited = sym (ap (λ (s : SessionState). s.work) same) ∙ ap work_at c.in-Key.is ∙ ap (key_work key) found in
    let out : IsSendOut c.args.config.now c.args.self.now it-was = subst (IsReadyFor c.args.config.now c.args.self.now) awaited c.requires.ready.ready in
    outcome_ready c.args.config.now out
    (outcome_taken c.args.outcome it-was c.in-Ok.stage c.answered.new.self _ _ _ _ _ _ _ _ _ c.in-Ok.ensures.ok.is (c.go_to.ensures.step _ (key_of_work _ _)) (c.go_to.ensures.went _ (key_of_work _ _))
    (c.as_slice-targets.ensures.value ∙ aims) (ap (λ (s : SessionState). s.outbox) same) (ap (λ (s : SessionState). s.reading) same)
    (ap (λ (s : SessionState). s.requests) same) (ap (λ (s : SessionState). s.owes) same) (ap (λ (s : SessionState). s.begin) same) aims)

pub returns-in-Err-clause-err : goal.returns-in-Err-clause-err
returns-in-Err-clause-err g c =
    let same = c.self.view_is in
    let key = c.in-Key.field-0.key in
    let it-was = asking c.in-Sent.sent key in
    let aims = ap (λ (s : SessionState). s.targets) same in
    let found = sym c.replace.ensures.value ∙ c.in-Sent.is in
    let awaited = sym (ap (λ (s : SessionState). s.work) same) ∙ ap work_at c.in-Key.is ∙ ap (key_work key) found in
    let out : IsSendOut c.args.config.now c.args.self.now it-was = subst (IsReadyFor c.args.config.now c.args.self.now) awaited c.requires.ready.ready in
    let held = subst (λ (s : SessionState). BeginsAt s.begin key.share s.outbox) (sym same) out.begins in
    let left = front_stays _ _ _ _ held c.in-Err.ensures.dropped.kept ∙ ap (λ (s : SessionState). take s.begin s.outbox) same in
    let again = dropped_again c.args.self.now _ _ _ _ _ _ left (ap (λ (s : SessionState). s.reading) same) (ap (λ (s : SessionState). s.requests) same)
    (ap (λ (s : SessionState). s.owes) same) (ap (λ (s : SessionState). s.begin) same) in
    going c.in-Err.ensures.dropped.lost (λ calls lost it is.
    subst (λ a. OutcomeDropped c.args.config.now a c.args.outcome c.args.self.now calls c.drop_after.result c.drop_after.new.self)
    (awaits_same it-was it (sym awaited ∙ is))
    (outcome_dropped c.args.outcome it-was calls c.in-Err.lost _ lost c.drop_after.ensures.attempts (c.as_slice-targets.ensures.value ∙ aims)
    (c.drop_after.ensures.dropped ∙ again ∙ ap (λ ts. record (dropped c.args.self.now) { targets = ts }) aims)))

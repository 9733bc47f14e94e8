use Rattle.std.proofs.Common.{ap, subst, sym, take, ◌∙◌}
use Rattle.std.specs.Prelude.{IsSome}
use Rattle.tko_reply.specs.Asking.{BeginsAt, ContinuesKeys}
use Rattle.tko_reply.proofs.HeldLemmas.{front_stays, has_front, next_held}
use Rattle.tko_session.specs.Driven.{IsReadyFor, dropped}
use Rattle.tko_session.specs.SessionState.{SessionState}
use Rattle.tko_session.specs.Working.{ended_in, key_work, work_at}
use Rattle.tko_session.proofs.CallLemmas.{dropped_again, ended_work, going, going_none, key_begun, key_dropped, key_of_work}
use Rattle.tko_session.proofs.ReadyLemmas.{key_over, key_passed, pass_lost, pass_unkeyed}
use Rattle.tko_session.proofs.session.Session.go_on.Goals as goal

pub returns-in_default-go_on-clause-err : goal.returns-in_default-go_on-clause-err
returns-in_default-go_on-clause-err g c =
    let same = c.self.view_is in
    let key = c.in-Key.field-0.key in
    let at = c.in-Key.field-0.wait in
    let work = sym (ap (λ (s : SessionState). s.work) same) ∙ ap work_at c.in-Key.is in
    let is = work ∙ ended_work key at (subst (λ w. IsSome (ended_in w)) work c.requires.tried) in
    going_none c.args.health.now
    (pass_unkeyed c.args.config.now is c.in_default-go_on.ensures.joined (c.in_default-go_on.ensures.err ∙ ap (λ (s : SessionState). s.outbox) same) (c.drop_after.ensures.attempts ∙ c.from.ensures)
    (c.drop_after.ensures.dropped ∙ ap (λ (s : SessionState). record (dropped s) { outbox = take s.begin c.go_on.new.outbox }) same))

pub returns-then-not-keyed-clause-ok : goal.returns-then-not-keyed-clause-ok
returns-then-not-keyed-clause-ok g c =
    let same = c.self.view_is in
    let key = c.in-Key.field-0.key in
    let at = c.in-Key.field-0.wait in
    let work = sym (ap (λ (s : SessionState). s.work) same) ∙ ap work_at c.in-Key.is in
    let is = work ∙ ended_work key at (subst (λ w. IsSome (ended_in w)) work c.requires.tried) in
    let goes = subst (λ (s : SessionState). ContinuesKeys key s.outbox c.in-Ok.keyed c.go_on.new.self c.go_on.new.outbox) same c.in-Ok.ensures.ok in
    going_none c.args.health.now
    (key_over c.args.config.now is c.if-not-keyed.true goes
    (ap (λ (s : SessionState). record s { outbox = c.go_on.new.outbox; work = key_work c.go_on.new.self at }) same)
    c.finish.ensures.step c.finish.ensures.finished)

pub begin-requires-clause-front : goal.begin-requires-clause-front
begin-requires-clause-front g c =
    let same = c.self.view_is in
    let key = c.in-Key.field-0.key in
    let at = c.in-Key.field-0.wait in
    let work = sym (ap (λ (s : SessionState). s.work) same) ∙ ap work_at c.in-Key.is in
    let is = work ∙ ended_work key at (subst (λ w. IsSome (ended_in w)) work c.requires.tried) in
    let ready : BeginsAt c.args.self.now.begin key.share c.args.self.now.outbox = subst (IsReadyFor c.args.config.now c.args.self.now) is c.requires.ready in
    let held' = subst (λ (s : SessionState). BeginsAt s.begin key.share s.outbox) (sym same) ready in
    let goes' = subst (λ b. ContinuesKeys key c.self.inside.outbox b c.go_on.new.self c.go_on.new.outbox) c.if-not-keyed.false c.in-Ok.ensures.ok in
    let held = next_held c.self.inside.begin key c.go_on.new.self c.self.inside.outbox c.go_on.new.outbox held' goes' in
    has_front _ c.go_on.new.self.share _ held

pub returns-in-Ok-begin-clause-ok : goal.returns-in-Ok-begin-clause-ok
returns-in-Ok-begin-clause-ok g c =
    let same = c.self.view_is in
    let key = c.in-Key.field-0.key in
    let at = c.in-Key.field-0.wait in
    let work = sym (ap (λ (s : SessionState). s.work) same) ∙ ap work_at c.in-Key.is in
    let is = work ∙ ended_work key at (subst (λ w. IsSome (ended_in w)) work c.requires.tried) in
    let goes = subst (λ (s : SessionState). ContinuesKeys key s.outbox c.in-Ok.keyed c.go_on.new.self c.go_on.new.outbox) same c.in-Ok.ensures.ok in
    going c.in-Ok-begin.ensures.ok (λ calls on.
    key_passed c.args.config.now is c.if-not-keyed.false goes
    (λ waits. key_begun c.go_on.new.self c.in-Ok-begin.stage c.begin.new.self calls _ _ _ _ _ _ _ on c.in-Ok-begin.ensures.found.targets c.in-Ok-begin.ensures.found.within
    (c.go_to.ensures.step _ (key_of_work _ at)) (c.go_to.ensures.went _ (key_of_work _ at)) (waits)
    (ap (λ (s : SessionState). s.reading) same) (ap (λ (s : SessionState). s.requests) same)
    (ap (λ (s : SessionState). s.owes) same) (ap (λ (s : SessionState). s.begin) same)))

pub returns-in-Err-clause-err : goal.returns-in-Err-clause-err
returns-in-Err-clause-err g c =
    let same = c.self.view_is in
    let key = c.in-Key.field-0.key in
    let at = c.in-Key.field-0.wait in
    let work = sym (ap (λ (s : SessionState). s.work) same) ∙ ap work_at c.in-Key.is in
    let is = work ∙ ended_work key at (subst (λ w. IsSome (ended_in w)) work c.requires.tried) in
    let ready : BeginsAt c.args.self.now.begin key.share c.args.self.now.outbox = subst (IsReadyFor c.args.config.now c.args.self.now) is c.requires.ready in
    let held' = subst (λ (s : SessionState). BeginsAt s.begin key.share s.outbox) (sym same) ready in
    let goes' = subst (λ b. ContinuesKeys key c.self.inside.outbox b c.go_on.new.self c.go_on.new.outbox) c.if-not-keyed.false c.in-Ok.ensures.ok in
    let held = next_held c.self.inside.begin key c.go_on.new.self c.self.inside.outbox c.go_on.new.outbox held' goes' in
    let goes = subst (λ (s : SessionState). ContinuesKeys key s.outbox c.in-Ok.keyed c.go_on.new.self c.go_on.new.outbox) same c.in-Ok.ensures.ok in
    going c.in-Err.ensures.dropped.lost (λ calls lost.
    pass_lost c.args.config.now is c.if-not-keyed.false goes
    (λ waits.
    let left = front_stays _ _ _ _ held c.in-Err.ensures.dropped.kept ∙ ap (take c.self.inside.begin) waits ∙ ap (λ (s : SessionState). take s.begin c.args.self.now.outbox) same in
    let again = dropped_again c.args.self.now _ _ _ _ _ _ left (ap (λ (s : SessionState). s.reading) same) (ap (λ (s : SessionState). s.requests) same)
    (ap (λ (s : SessionState). s.owes) same) (ap (λ (s : SessionState). s.begin) same) in
    key_dropped c.go_on.new.self calls c.in-Err.lost _ lost c.drop_after-in-Err.ensures.attempts (c.drop_after-in-Err.ensures.dropped ∙ again)))

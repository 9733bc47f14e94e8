use Rattle.std.proofs.Common.{◌≡◌, ap, length, subst, sym, take, ◌∙◌}
use Rattle.std.specs.Prelude.{IsSome}
use Rattle.tko_reply.specs.Answering.{Extends}
use Rattle.tko_reply.specs.Asking.{BeginsAnswer, BeginsAt}
use Rattle.tko_reply.proofs.HeldLemmas.{first_held, front_stays, has_front}
use Rattle.tko_session.specs.Driven.{IsReadyFor, IsRequestRead, dropped}
use Rattle.tko_session.specs.SessionState.{SessionState}
use Rattle.tko_session.specs.Working.{key_work, request_read_in, work_at}
use Rattle.tko_session.specs.declared.step.Step.TheVariants.{At}
use Rattle.tko_session.proofs.CallLemmas.{dropped_again, going, going_then, key_begun, key_dropped, key_of_work, read_work}
use Rattle.tko_session.proofs.ReadyLemmas.{request_itself, request_keyed, request_lost, request_unkeyed}
use Rattle.tko_session.proofs.BegunLemmas.{begins_first}
use Rattle.tko_session.proofs.session.Session.begin_request.Goals as goal

pub first-requires-clause-whole : goal.first-requires-clause-whole
first-requires-clause-whole g c =
    let key = c.in-Key.field-0.key in
    let at = c.in-Key.field-0.wait in
    let work = sym (ap (λ (s : SessionState). s.work) c.self.view_is) ∙ ap work_at c.in-Key.is in
    let is = work ∙ read_work key at (subst (λ w. IsSome (request_read_in w)) work c.requires.read) in
    let ready : IsRequestRead c.args.self.now key = subst (IsReadyFor c.args.config.now c.args.self.now) is c.requires.ready in
    ready.whole

pub returns-in_default-first-clause-err : goal.returns-in_default-first-clause-err
returns-in_default-first-clause-err g c =
    let same = c.self.view_is in
    let key = c.in-Key.field-0.key in
    let at = c.in-Key.field-0.wait in
    let work = sym (ap (λ (s : SessionState). s.work) same) ∙ ap work_at c.in-Key.is in
    let is = work ∙ read_work key at (subst (λ w. IsSome (request_read_in w)) work c.requires.read) in
    let ready : IsRequestRead c.args.self.now key = subst (IsReadyFor c.args.config.now c.args.self.now) is c.requires.ready in
    let more = subst (λ (s : SessionState). Extends s.outbox c.first.new.outbox) same c.in_default-first.ensures.err in
    going c.in_default-first.ensures.cut (λ calls cut.
    request_unkeyed c.args.config.now is ready.begins more cut (c.drop_after.ensures.attempts ∙ c.from.ensures)
    (c.drop_after.ensures.dropped ∙ ap (λ (s : SessionState). record (dropped s) { outbox = take s.begin c.first.new.outbox }) same))

pub returns-then-not-keyed-clause-ok : goal.returns-then-not-keyed-clause-ok
returns-then-not-keyed-clause-ok g c =
    let same = c.self.view_is in
    let key = c.in-Key.field-0.key in
    let at = c.in-Key.field-0.wait in
    let work = sym (ap (λ (s : SessionState). s.work) same) ∙ ap work_at c.in-Key.is in
    let is = work ∙ read_work key at (subst (λ w. IsSome (request_read_in w)) work c.requires.read) in
    going c.in-Ok.ensures.ok (λ calls begins.
    request_itself c.args.config.now is c.if-not-keyed.true
    (subst (λ (s : SessionState). BeginsAnswer c.args.config.now key.request s.outbox calls c.in-Ok.keyed c.first.new.self c.first.new.outbox) same begins)
    (ap (λ (s : SessionState). record s { outbox = c.first.new.outbox; work = key_work c.first.new.self at }) same)
    (rw c.request.ensures at (c.finish.ensures.step ∙ ap At c.progress_of-progress.ensures)) c.finish.ensures.finished)

pub begin-requires-clause-front : goal.begin-requires-clause-front
begin-requires-clause-front g c =
    let same = c.self.view_is in
    let key = c.in-Key.field-0.key in
    let at = c.in-Key.field-0.wait in
    let work = sym (ap (λ (s : SessionState). s.work) same) ∙ ap work_at c.in-Key.is in
    let is = work ∙ read_work key at (subst (λ w. IsSome (request_read_in w)) work c.requires.read) in
    let ready : IsRequestRead c.args.self.now key = subst (IsReadyFor c.args.config.now c.args.self.now) is c.requires.ready in
    let begin = subst (λ (s : SessionState). s.begin ≡ length s.outbox) (sym same) ready.begins in
    let first = begins_first c.if-not-keyed.false c.in-Ok.ensures.ok.is in
    let held = subst (λ xs. BeginsAt c.self.inside.begin c.first.new.self.share xs) (sym first.1)
    (first_held c.self.inside.begin key.request c.self.inside.outbox c.first.new.self begin first.0) in
    has_front _ c.first.new.self.share _ held

pub returns-in-Ok-begin-clause-ok : goal.returns-in-Ok-begin-clause-ok
returns-in-Ok-begin-clause-ok g c =
    let same = c.self.view_is in
    let key = c.in-Key.field-0.key in
    let at = c.in-Key.field-0.wait in
    let work = sym (ap (λ (s : SessionState). s.work) same) ∙ ap work_at c.in-Key.is in
    let is = work ∙ read_work key at (subst (λ w. IsSome (request_read_in w)) work c.requires.read) in
    going_then c.in-Ok.ensures.ok c.in-Ok-begin.ensures.ok (λ calls more begins goes.
    request_keyed c.args.config.now is c.if-not-keyed.false
    (subst (λ (s : SessionState). BeginsAnswer c.args.config.now key.request s.outbox calls c.in-Ok.keyed c.first.new.self c.first.new.outbox) same begins)
    (λ waits. key_begun c.first.new.self c.in-Ok-begin.stage c.begin.new.self more _ _ _ _ _ _ _ goes c.in-Ok-begin.ensures.found.targets c.in-Ok-begin.ensures.found.within
    (c.go_to.ensures.step _ (key_of_work _ at)) (c.go_to.ensures.went _ (key_of_work _ at)) (waits)
    (ap (λ (s : SessionState). s.reading) same) (ap (λ (s : SessionState). s.requests) same)
    (ap (λ (s : SessionState). s.owes) same) (ap (λ (s : SessionState). s.begin) same)))

pub returns-in-Err-clause-err : goal.returns-in-Err-clause-err
returns-in-Err-clause-err g c =
    let same = c.self.view_is in
    let key = c.in-Key.field-0.key in
    let at = c.in-Key.field-0.wait in
    let work = sym (ap (λ (s : SessionState). s.work) same) ∙ ap work_at c.in-Key.is in
    let is = work ∙ read_work key at (subst (λ w. IsSome (request_read_in w)) work c.requires.read) in
    let ready : IsRequestRead c.args.self.now key = subst (IsReadyFor c.args.config.now c.args.self.now) is c.requires.ready in
    let begin = subst (λ (s : SessionState). s.begin ≡ length s.outbox) (sym same) ready.begins in
    let first = begins_first c.if-not-keyed.false c.in-Ok.ensures.ok.is in
    let held = subst (λ xs. BeginsAt c.self.inside.begin c.first.new.self.share xs) (sym first.1)
    (first_held c.self.inside.begin key.request c.self.inside.outbox c.first.new.self begin first.0) in
    going_then c.in-Ok.ensures.ok c.in-Err.ensures.dropped.lost (λ calls more begins lost.
    request_lost c.args.config.now is c.if-not-keyed.false
    (subst (λ (s : SessionState). BeginsAnswer c.args.config.now key.request s.outbox calls c.in-Ok.keyed c.first.new.self c.first.new.outbox) same begins)
    (λ waits.
    let left = front_stays _ _ _ _ held c.in-Err.ensures.dropped.kept ∙ ap (take c.self.inside.begin) waits ∙ ap (λ (s : SessionState). take s.begin c.args.self.now.outbox) same in
    let again = dropped_again c.args.self.now _ _ _ _ _ _ left (ap (λ (s : SessionState). s.reading) same) (ap (λ (s : SessionState). s.requests) same)
    (ap (λ (s : SessionState). s.owes) same) (ap (λ (s : SessionState). s.begin) same) in
    key_dropped c.first.new.self more c.in-Err.lost _ lost c.drop_after-in-Err.ensures.attempts (c.drop_after-in-Err.ensures.dropped ∙ again)))

use Rattle.tko_reply.proofs.ResultLemmas.{both_ok}
use Rattle.tko_session.proofs.BegunLemmas.{fault_read, request_read}
use Rattle.tko_session.proofs.session.Session.next_item.Goals as goal

pub returns-in-Some-Fault-clause-ok : goal.returns-in-Some-Fault-clause-ok
returns-in-Some-Fault-clause-ok c =
    let told = rw c.in-Some-Fault.is at c.in_ok-read_item.ensures.item in
    let fault_told = rw c.in-Some-Fault.field-0-is at told in
    both_ok c.answer_fault.result c.answer_fault.ensures.ok c.answer_fault.ensures.step
    (λ step e is. fault_read _ fault_told c.in_ok-read_item.ensures.others e is)

pub returns-in-Some-Request-clause-ok : goal.returns-in-Some-Request-clause-ok
returns-in-Some-Request-clause-ok c =
    let told = rw c.in-Some-Request.is at c.in_ok-read_item.ensures.item in
    let request_told = rw c.in-Some-Request.field-0-is at told in
    request_read _ request_told c.in_ok-read_item.ensures.others c.take_request.ensures.state c.take_request.ensures.step

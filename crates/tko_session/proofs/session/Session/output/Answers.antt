use Rattle.std.proofs.Common.{◌≡◌, ap, sym, take, ◌∙◌}
use Rattle.tko_session.specs.Outgoing.{outgoing, outgoing_in}
use Rattle.tko_session.specs.Working.{work_at}
use Rattle.tko_session.proofs.OutgoingLemmas.{extends_taken, outgoing_at}
use Rattle.tko_session.proofs.session.Session.output.Goals as goal

pub returns-in-Key-clause-front : goal.returns-in-Key-clause-front
returns-in-Key-clause-front c =
    let begin = c.self.inside.begin in
    let outbox = c.self.inside.outbox in
    let out : outgoing c.args.self.now ≡ take begin outbox =
    ap outgoing (sym c.self.view_is) ∙ ap (λ o. outgoing_in (work_at o) begin outbox) c.in-Key.is
    ∙ outgoing_at begin outbox c.in-Key.field-0.key c.in-Key.field-0.wait in
    rw (c.first_bytes.ensures, out) (extends_taken begin _ outbox c.front-front.ensures.front)

pub returns-in-HandedOver-clause-front : goal.returns-in-HandedOver-clause-front
returns-in-HandedOver-clause-front c =
    let begin = c.self.inside.begin in
    let outbox = c.self.inside.outbox in
    let out : outgoing c.args.self.now ≡ take begin outbox =
    ap outgoing (sym c.self.view_is) ∙ ap (λ o. outgoing_in (work_at o) begin outbox) c.in-HandedOver.is in
    rw (c.first_bytes-in-HandedOver.ensures, out) (extends_taken begin _ outbox c.front-front.ensures.front)

use Rattle.std.proofs.Common.{◌≡◌, ap, arith, sym, length, take, ◌∙◌}
use Rattle.std.proofs.lemmas.List.{length-take}
use Rattle.tko_session.specs.Outgoing.{outgoing, outgoing_in}
use Rattle.tko_session.specs.Working.{work_at}
use Rattle.tko_session.proofs.OutgoingLemmas.{outgoing_at}
use Rattle.tko_session.proofs.session.Session.waiting.Goals as goal

pub returns-in-Key : goal.returns-in-Key
returns-in-Key c =
    let begin = c.self.inside.begin in
    let outbox = c.self.inside.outbox in
    let out : outgoing c.args.self.now ≡ take begin outbox =
    ap outgoing (sym c.self.view_is) ∙ ap (λ o. outgoing_in (work_at o) begin outbox) c.in-Key.is
    ∙ outgoing_at begin outbox c.in-Key.field-0.key c.in-Key.field-0.wait in
    omega (arith, ap length out, length-take begin outbox)

pub returns-in-HandedOver : goal.returns-in-HandedOver
returns-in-HandedOver c =
    let begin = c.self.inside.begin in
    let outbox = c.self.inside.outbox in
    let out : outgoing c.args.self.now ≡ take begin outbox =
    ap outgoing (sym c.self.view_is) ∙ ap (λ o. outgoing_in (work_at o) begin outbox) c.in-HandedOver.is in
    omega (arith, ap length out, length-take begin outbox)

use Rattle.std.proofs.Common.{sym}
use Rattle.tko_tracker.proofs.ReleasedLemmas.{pass-after}
use Rattle.tko_tracker.proofs.calls.call.Goals as goal

pub invariant_of-pass : goal.invariant_of-pass
invariant_of-pass c =
    let fields = c.pass.inside in
    let ran = c.run-reply.ensures in
    pass-after c.args.words.now.settings fields.number fields.owned.words c.record.new.self.words fields.seat c.run-reply.new.seat
    c.args.pass.now c.args.op c.args.server c.run-reply.result c.pass.invariant (sym c.pass.view_is) c.requires.tracker.settings
    c.requires.server ran.seat.1 ran.ran c.record.ensures

use Rattle.std.proofs.Common.{sym, ◌∙◌}
use Rattle.tko_tracker.proofs.OwnedLemmas.{bits-given, bits-taken}
use Rattle.tko_tracker.proofs.owned.Owned.record.Goals as goal

pub returns-then-takes : goal.returns-then-takes
returns-then-takes c =
    bits-taken c.args.reply c.args.self.now.words c.insert.new.self.words c.args.server (sym c.takes.ensures ∙ c.if-takes.true) c.insert.ensures

pub returns-then-gives : goal.returns-then-gives
returns-then-gives c =
    bits-given c.args.reply c.args.self.now.words c.remove.new.self.words c.args.server (sym c.takes.ensures ∙ c.if-takes.false) (sym c.gives.ensures ∙ c.if-gives.true) c.remove.ensures

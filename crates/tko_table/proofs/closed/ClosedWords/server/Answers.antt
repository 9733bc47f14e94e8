use Rattle.std.proofs.Common.{◌∙◌, ap, sym}
use Rattle.std.specs.Mem.Slots.{slots_counts, slots_items}
use Rattle.tko_model.specs.Tracker.{server_at}
use Rattle.tko_table.specs.Closing.{ClosedContents}
use Rattle.tko_table.specs.Rule.{shared_in}
use Rattle.tko_table.proofs.ClosingLemmas.{closed-server, closed-word, server-inside}
use Rattle.tko_table.proofs.closed.ClosedWords.server.Goals as goal

pub unpack-mark-requires : goal.unpack-mark-requires
unpack-mark-requires c =
    let words = slots_items c.self.inside.table.words in
    let there = server-inside c.self.inside.settings (shared_in c.self.inside.settings words) c.args.self.now c.args.server words c.self.view_is (sym (slots_counts c.self.inside.table.words).0 ∙ c.self.inside.count) c.requires in
    closed-word c.self.inside.settings words c.place_of.result c.args.server c.word.result c.place_of.ensures c.word.ensures there c.self.invariant

pub returns : goal.returns
returns c =
    let words = slots_items c.self.inside.table.words in
    let there = server-inside c.self.inside.settings (shared_in c.self.inside.settings words) c.args.self.now c.args.server words c.self.view_is (sym (slots_counts c.self.inside.table.words).0 ∙ c.self.inside.count) c.requires in
    sym c.unpack-mark.ensures.read
    ∙ closed-server c.self.inside.settings words c.place_of.result c.args.server c.word.result c.place_of.ensures c.word.ensures there
    ∙ ap (λ (it : ClosedContents). server_at it.shared.servers c.args.server) c.self.view_is

use Rattle.std.proofs.Common.{sym, ◌∙◌}
use Rattle.tko_keys.proofs.FirstLemmas.{never_none}
use Rattle.tko_keys.proofs.DueLemmas.{due_there, taken_due}
use Rattle.tko_keys.proofs.keys_at_once.sending.take_due.Goals as goal

pub unreachable-requires : goal.unreachable-requires
unreachable-requires c =
    never_none (due_there c.args.server) c.args.due.now.items c.requires
    (sym c.due_index.ensures ∙ c.in_default.is)

pub returns-clause-first : goal.returns-clause-first
returns-clause-first c =
    taken_due (sym c.due_index.ensures ∙ c.in-Some.is) c.in-Some-remove.ensures.value
    c.in-Some-remove.ensures.items

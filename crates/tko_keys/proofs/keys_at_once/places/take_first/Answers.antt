use Rattle.std.proofs.Common.{sym, ◌∙◌}
use Rattle.tko_keys.proofs.FirstLemmas.{first_read, never_none}
use Rattle.tko_keys.proofs.SendLemmas.{at_server, others_left}
use Rattle.tko_keys.proofs.keys_at_once.places.take_first.Goals as goal

pub unreachable-requires : goal.unreachable-requires
unreachable-requires c =
    never_none (at_server c.args.server) c.args.sends.now.items c.requires
    (sym c.index_of.ensures ∙ c.in_default.is)

pub returns-clause-first : goal.returns-clause-first
returns-clause-first c =
    (first_read (at_server c.args.server) c.args.sends.now.items _
    (sym c.index_of.ensures ∙ c.in-Some.is) c.in-Some-remove.ensures.value).0

pub returns-clause-others : goal.returns-clause-others
returns-clause-others c =
    c.in-Some-remove.ensures.items
    ∙ others_left c.args.server c.args.sends.now.items
    (sym c.index_of.ensures ∙ c.in-Some.is) c.in-Some-remove.ensures.value

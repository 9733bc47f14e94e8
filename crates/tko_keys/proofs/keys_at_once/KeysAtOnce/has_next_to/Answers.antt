use Rattle.std.proofs.Common.{ap, sym, ◌∙◌}
use Rattle.std.specs.List.{list_all}
use Rattle.tko_keys.specs.KeysState.{has_next_at}
use Rattle.tko_keys.proofs.ReadingLemmas.{first_next, none_next}
use Rattle.tko_keys.proofs.FirstLemmas.{first_read, none_found}
use Rattle.tko_keys.proofs.SendLemmas.{at_server}
use Rattle.tko_keys.proofs.keys_at_once.KeysAtOnce.has_next_to.Goals as goal

pub returns-in-Some : goal.returns-in-Some
returns-in-Some c =
    let there = first_read (at_server c.args.server) c.self.inside.sends.items c.index.result.now
    (sym c.index_of.ensures ∙ c.in-Some.is) c.index.ensures in
    first_next c.args.server c.self.view_is there.0 (c.have_next.ensures
    ∙ ap (λ ss. list_all (has_next_at ss) c.index.result.now.places) c.deref.ensures.value)

pub returns-in-None : goal.returns-in-None
returns-in-None c =
    none_next c.args.server c.self.view_is (none_found (at_server c.args.server)
    c.self.inside.sends.items (sym c.index_of.ensures ∙ c.in-None.is))

use Rattle.std.proofs.Common.{subst, sym, ◌∙◌}
use Rattle.std.specs.Prelude.{IsSome}
use Rattle.tko_keys.specs.KeysState.{KeysState, first_send}
use Rattle.tko_keys.proofs.ReadingLemmas.{first_keys}
use Rattle.tko_keys.proofs.FirstLemmas.{first_read, never_none}
use Rattle.tko_keys.proofs.SendLemmas.{at_server}
use Rattle.tko_keys.proofs.keys_at_once.KeysAtOnce.keys_to.Goals as goal

pub unreachable-requires : goal.unreachable-requires
unreachable-requires c =
    let some = subst (λ (s : KeysState). IsSome (first_send c.args.server s.sends))
    (sym c.self.view_is) c.requires in
    never_none (at_server c.args.server) _ some (sym c.index_of.ensures ∙ c.in_default.is)

pub returns : goal.returns
returns c =
    let there = first_read (at_server c.args.server) c.self.inside.sends.items c.index.result.now
    (sym c.index_of.ensures ∙ c.in-Some.is) c.index.ensures in
    first_keys c.args.server c.self.view_is there.0 c.keys.ensures

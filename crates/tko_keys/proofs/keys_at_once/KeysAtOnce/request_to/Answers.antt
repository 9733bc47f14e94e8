use Rattle.std.proofs.Common.{ap, subst, sym, ◌∙◌}
use Rattle.std.specs.Prelude.{IsSome}
use Rattle.tko_keys.specs.KeysState.{HavePlaces, KeysState, first_send, request_of}
use Rattle.tko_keys.proofs.ReadingLemmas.{first_request, send_has}
use Rattle.tko_keys.proofs.FirstLemmas.{first_read, never_none}
use Rattle.tko_keys.proofs.SendLemmas.{at_server}
use Rattle.tko_keys.proofs.keys_at_once.KeysAtOnce.request_to.Goals as goal

pub unreachable-requires : goal.unreachable-requires
unreachable-requires c =
    let some = subst (λ (s : KeysState). IsSome (first_send c.args.server s.sends))
    (sym c.self.view_is) c.requires in
    never_none (at_server c.args.server) _ some (sym c.index_of.ensures ∙ c.in_default.is)

pub request_of-requires : goal.request_of-requires
request_of-requires c =
    let there = first_read (at_server c.args.server) c.self.inside.sends.items c.index.result.now
    (sym c.index_of.ensures ∙ c.in-Some.is) c.index.ensures in
    subst (λ ss. HavePlaces ss c.index.result.now.places) (sym c.deref.ensures.value)
    (send_has c.self.inside.slots.items c.self.inside.due.items c.self.inside.sends.items
    c.self.inside.came _ c.index.result.now c.self.invariant.2 there.1)

pub returns : goal.returns
returns c =
    let there = first_read (at_server c.args.server) c.self.inside.sends.items c.index.result.now
    (sym c.index_of.ensures ∙ c.in-Some.is) c.index.ensures in
    first_request c.args.server c.self.view_is there.0
    (ap (λ (ss : _). request_of ss c.index.result.now) (sym c.deref.ensures.value)
    ∙ c.request_of.ensures)

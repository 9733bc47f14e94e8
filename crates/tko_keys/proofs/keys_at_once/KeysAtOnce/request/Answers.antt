use Rattle.std.proofs.Common.{◌≡◌, ap, length, rules, subst, sym, ◌∙◌}
use Rattle.tko_keys.specs.KeysState.{HavePlaces, KeysState, request_of}
use Rattle.tko_keys.proofs.ReadingLemmas.{last_request, read_last, send_has}
use Rattle.tko_keys.proofs.keys_at_once.KeysAtOnce.request.Goals as goal

pub request_of-requires : goal.request_of-requires
request_of-requires c =
    let len : c.len.result ≡ length c.self.inside.sends.items = search rules in
    let at = read_last c.self.inside.sends.items c.len.result c.index.result.now
    (λ e. c.requires (ap (λ (s : KeysState). s.sends) (sym c.self.view_is) ∙ e)) len
    c.index.ensures in
    subst (λ ss. HavePlaces ss c.index.result.now.places) (sym c.deref.ensures.value)
    (send_has c.self.inside.slots.items c.self.inside.due.items c.self.inside.sends.items
    c.self.inside.came _ c.index.result.now c.self.invariant.2 at)

pub returns : goal.returns
returns c =
    let len : c.len.result ≡ length c.self.inside.sends.items = search rules in
    let at = read_last c.self.inside.sends.items c.len.result c.index.result.now
    (λ e. c.requires (ap (λ (s : KeysState). s.sends) (sym c.self.view_is) ∙ e)) len
    c.index.ensures in
    last_request c.self.view_is at (ap (λ (ss : _). request_of ss c.index.result.now)
    (sym c.deref.ensures.value) ∙ c.request_of.ensures)

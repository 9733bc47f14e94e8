use Rattle.std.proofs.Common.{◌≡◌, ◌<◌, Some, ap, length, rules, subst, sym, ◌∙◌}
use Rattle.std.specs.Prelude.{slice_index_or}
use Rattle.std.specs.Vec.{vec_len}
use Rattle.tko_keys.specs.KeysState.{DueKey, KeySlot, attempts_of}
use Rattle.tko_keys.proofs.ReadingLemmas.{last_attempts, last_due}
use Rattle.tko_keys.proofs.keys_at_once.KeysAtOnce.attempts.Goals as goal

pub index-requires-2 : goal.index-requires-2
index-requires-2 c =
    let len : c.len.result ≡ length c.self.inside.due.items = search rules in
    let last = last_due c.len.result c.index.result.now c.self.view_is c.requires len
    c.index.ensures c.self.invariant.2 in
    let same : c.index.result.now.place ≡ c.behind-self.inside.place =
    ap (λ (d : DueKey). d.place) (sym c.behind-self.view_is) in
    let count : vec_len c.self.inside.slots ≡ length c.self.inside.slots.items = search rules in
    subst (λ n. c.behind-self.inside.place < n) (sym count)
    (subst (λ n. n < length c.self.inside.slots.items) same last.1)

pub returns-in-Some : goal.returns-in-Some
returns-in-Some c =
    let len : c.len.result ≡ length c.self.inside.due.items = search rules in
    let last = last_due c.len.result c.index.result.now c.self.view_is c.requires len
    c.index.ensures c.self.invariant.2 in
    let same : c.index.result.now.place ≡ c.behind-self.inside.place =
    ap (λ (d : DueKey). d.place) (sym c.behind-self.view_is) in
    last_attempts c.index-2.result.now c.self.view_is last.0 last.1
    (c.index-2.ensures ∙ ap (λ n. slice_index_or c.self.inside.slots.items n c.index-2.result.now)
    (sym same))
    ∙ ap Some (sym (c.attempts.ensures
    ∙ ap attempts_of (sym c.in-Some.is ∙ ap (λ (k : KeySlot). k.awaited) c.behind-self-2.view_is)))

pub returns-in-None : goal.returns-in-None
returns-in-None c =
    let len : c.len.result ≡ length c.self.inside.due.items = search rules in
    let last = last_due c.len.result c.index.result.now c.self.view_is c.requires len
    c.index.ensures c.self.invariant.2 in
    let same : c.index.result.now.place ≡ c.behind-self.inside.place =
    ap (λ (d : DueKey). d.place) (sym c.behind-self.view_is) in
    last_attempts c.index-2.result.now c.self.view_is last.0 last.1
    (c.index-2.ensures ∙ ap (λ n. slice_index_or c.self.inside.slots.items n c.index-2.result.now)
    (sym same))
    ∙ ap Some (sym (ap attempts_of
    (sym c.in-None.is ∙ ap (λ (k : KeySlot). k.awaited) c.behind-self-2.view_is)))

use Rattle.std.specs.Prelude.{remove}
use Rattle.std.proofs.Common.{◌≡◌, ◌≤◌, subst, sym, ap, ◌∙◌}
use Rattle.tko_keys.specs.KeysState.{KeysCame, KeysState}
use Rattle.tko_keys.proofs.EndLemmas.{unsent_ends}
use Rattle.tko_keys.proofs.KeptLemmas.{came_kept}
use Rattle.tko_keys.proofs.SendLemmas.{last_parts}
use Rattle.tko_keys.proofs.keys_at_once.KeysAtOnce.unsent.Goals as goal

pub returns-clause-unsent : goal.returns-clause-unsent
returns-clause-unsent c =
    (unsent_ends c.self.view_is c.requires.settled c.last_index-index.ensures
    c.in-Some.ensures.value c.in-Some.ensures.items c.of.ensures).0

pub returns-clause-ready : goal.returns-clause-ready
returns-clause-ready c =
    (unsent_ends c.self.view_is c.requires.settled c.last_index-index.ensures
    c.in-Some.ensures.value c.in-Some.ensures.items c.of.ensures).1

pub invariant_of-self : goal.invariant_of-self
invariant_of-self c =
    let parts = last_parts c.last_index-index.ensures c.in-Some.ensures.value in
    let none = ap (λ (s : KeysState). s.came.places) c.self.view_is ∙ c.requires.settled in
    let left : c.remove.new.self.items ≡ remove c.self.inside.sends.items
    c.last_index-index.result =
    c.in-Some.ensures.items in
    let now = ap (λ (k : KeysCame). k.places) c.of.ensures in
    let kept =
    came_kept c.self.inside.slots.items c.self.inside.due.items c.self.inside.sends.items
    c.remove.new.self.items parts.0 parts.1 c.in-Some.send c.self.inside.came c.of.result parts.2
    (left ∙ parts.3) none now c.self.invariant.2 c.self.invariant.4 in (
      c.self.invariant.0,
      c.self.invariant.1,
      kept.0,
      c.self.invariant.3,
      kept.1,
      c.self.invariant.5,
      subst (λ n. c.self.inside.out ≤ n) (sym c.remove.ensures.capacity) c.self.invariant.6,
    )

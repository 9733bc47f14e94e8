use Rattle.std.proofs.Common.{◌≤◌, subst, sym, ap, ◌∙◌}
use Rattle.tko_keys.specs.KeysState.{KeysCame, KeysState}
use Rattle.tko_keys.proofs.EndLemmas.{stop_ends}
use Rattle.tko_keys.proofs.KeptLemmas.{first_kept}
use Rattle.tko_keys.proofs.keys_at_once.KeysAtOnce.stop.Goals as goal

pub returns-clause-ready : goal.returns-clause-ready
returns-clause-ready c =
    (stop_ends c.self.view_is c.requires.settled c.take_first-send.ensures.first
    c.take_first-send.ensures.others c.of.ensures).1

pub invariant_of-self : goal.invariant_of-self
invariant_of-self c =
    let none = ap (λ (s : KeysState). s.came.places) c.self.view_is ∙ c.requires.settled in
    let now = ap (λ (k : KeysCame). k.places) c.of.ensures in
    let kept =
    first_kept c.args.server c.self.inside.slots.items c.self.inside.due.items
    c.self.inside.sends.items
    c.take_first-send.new.sends.items c.take_first-send.result c.self.inside.came c.of.result
    c.take_first-send.ensures.first c.take_first-send.ensures.others none now c.self.invariant.2
    c.self.invariant.4 in (
      c.self.invariant.0,
      c.self.invariant.1,
      kept.0,
      c.self.invariant.3,
      kept.1,
      c.self.invariant.5,
      subst (λ n. c.self.inside.out ≤ n) (sym c.take_first-send.ensures.room) c.self.invariant.6,
    )

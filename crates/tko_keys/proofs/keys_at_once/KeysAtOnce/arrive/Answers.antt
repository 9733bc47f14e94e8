use Rattle.std.proofs.Common.{◌≤◌, subst, sym, ap, ◌∙◌}
use Rattle.tko_keys.specs.KeysState.{KeysCame, KeysState}
use Rattle.tko_keys.proofs.EndLemmas.{arrive_ends, sent_within}
use Rattle.tko_keys.proofs.KeptLemmas.{first_kept}
use Rattle.tko_keys.proofs.keys_at_once.KeysAtOnce.arrive.Goals as goal

pub record_outcome-reply-requires : goal.record_outcome-reply-requires
record_outcome-reply-requires g c =
    sent_within _ c.args.server c.requires.ready.0 c.requires.ready.1 c.requires.ready.2
    c.requires.awaited

pub returns-clause-arrived : goal.returns-clause-arrived
returns-clause-arrived g c =
    (arrive_ends c.args.outcome c.record_outcome-reply.result c.self.view_is c.requires.settled
    c.take_first-send.ensures.first c.take_first-send.ensures.others c.of.ensures
    c.record_outcome-reply.ensures.recorded).0

pub returns-clause-ready : goal.returns-clause-ready
returns-clause-ready g c =
    (arrive_ends {steps = g.H.Health.steps} c.args.outcome c.record_outcome-reply.result
    c.self.view_is c.requires.settled c.take_first-send.ensures.first
    c.take_first-send.ensures.others c.of.ensures
    c.record_outcome-reply.ensures.recorded).1

pub invariant_of-self : goal.invariant_of-self
invariant_of-self g c =
    let none = ap (λ (s : KeysState). s.came.places) c.self.view_is ∙ c.requires.settled in
    let now = ap (λ (k : KeysCame). k.places) c.of.ensures in
    let kept =
    first_kept c.args.server c.self.inside.slots.items c.self.inside.due.items
    c.self.inside.sends.items
    c.take_first-send.new.sends.items c.take_first-send.result c.self.inside.came c.of.result
    c.take_first-send.ensures.first c.take_first-send.ensures.others none now c.self.invariant.2
    c.self.invariant.4 in (
      c.self.invariant.0,
      c.self.invariant.1,
      kept.0,
      c.self.invariant.3,
      kept.1,
      c.self.invariant.5,
      subst (λ n. c.self.inside.out ≤ n) (sym c.take_first-send.ensures.room) c.self.invariant.6,
    )

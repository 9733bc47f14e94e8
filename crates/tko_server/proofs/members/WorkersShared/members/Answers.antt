use Rattle.std.proofs.Common.{All, length, subst, sym}
use Rattle.std.proofs.lemmas.List.Elements.{All-head, All-tail}
use Rattle.tko_server.proofs.MemberLemmas.{one_more_asked, one_more_seated, one_seat_less}
use Rattle.tko_threads.proofs.ReadyLemmas.{one_more_ready}
use Rattle.tko_tracker.specs.Seated.{IsOf, Seated}
use Rattle.tko_server.proofs.members.WorkersShared.members.Goals as goal

pub loop-idle-preserved : goal.loop-idle-preserved
loop-idle-preserved g c =
    let tracker = g.N.Named.tracker in
    let own : Seated → Type 0 = λ idle. IsOf tracker idle in
    let steps = c.in-Some.ensures.steps in
    let passes = subst (All own) steps.0.0 c.loop-idle.invariant.2 in
    let pass = subst own (sym c.idle.view_is) (All-head own _ _ passes) in
    let counted = one_seat_less _ _ _ _ _ _ _ _ _ _ steps.0.0 steps.1
    c.in_ok-push.ensures.items c.loop-idle.invariant.4 c.loop-idle.invariant.5 in (
      (tt, tt),
      tt,
      All-tail own _ _ passes,
      one_more_ready (λ _ idle. own idle) (λ _. tracker.settings.servers)
          (λ links. length links.sends) _ _ _ c.in_ok-push.ensures.items c.loop-idle.invariant.3
          pass c.in_ok-parts.ensures.equipped,
      counted.0,
      counted.1,
      one_more_asked _ _ _ _ c.in_ok-push.ensures.items c.loop-idle.invariant.6 c.in_ok-parts.ensures.asked,
      one_more_seated _ _ _ _ _ _ _ steps.0.0 c.in_ok-push.ensures.items c.idle.view_is c.loop-idle.invariant.7,
    )

use Rattle.std.proofs.Common.{All, rules, subst}
use Rattle.std.proofs.lemmas.List.Elements.{All-tail}
use Rattle.tko_server.proofs.EventMemberLemmas.{one_more_event_asked, one_more_event_ready, one_more_event_seated, one_more_way}
use Rattle.tko_server.proofs.MemberLemmas.{one_seat_less}
use Rattle.tko_tracker.specs.Seated.{IsOf, Seated}
use Rattle.tko_server.proofs.members.WorkersShared.event_members.Goals as goal

pub loop-idle-preserved : goal.loop-idle-preserved
loop-idle-preserved g c =
    let tracker = g.N.Named.tracker in
    let own : Seated → Type 0 = λ idle. IsOf tracker idle in
    let steps = c.in-Some.ensures.steps in
    let passes = subst (All own) steps.0.0 c.loop-idle.invariant.2 in
    let pushed = c.in_ok-push-2.ensures.items in
    let counted = one_seat_less _ _ _ _ _ _ _ _ _ _ steps.0.0 steps.1 pushed
    c.loop-idle.invariant.4 c.loop-idle.invariant.5 in (
      (tt, tt),
      tt,
      All-tail own _ _ passes,
      one_more_event_ready tracker _ _ _ pushed c.loop-idle.invariant.3
          c.in_ok-event_member.ensures.ready,
      counted.0,
      counted.1,
      one_more_event_asked _ _ _ _ pushed c.loop-idle.invariant.6
          c.in_ok-event_member.ensures.asked,
      one_more_event_seated _ _ _ _ _ _ _ steps.0.0 pushed (search rules)
          c.loop-idle.invariant.7,
      one_more_way _ _ _ _ _ _ c.in_ok-push.ensures.items pushed c.loop-idle.invariant.8,
    )

use Rattle.std.proofs.Common.{◌≡◌, ℕ, length, rules, subst, arith, vec_capacity}
use Rattle.std.specs.Prelude.{slice_index}
use Rattle.std.proofs.lemmas.Grind.{common_steps}
use Rattle.tko_route.specs.Trail.{form_at}
use Rattle.tko_route.proofs.RoutingLemmas.{all_tried, found_up, none_left, skipped}
use Rattle.tko_route.proofs.TrailLemmas.{count_pushed, prepared}
use Rattle.tko_route.proofs.routing.look_on.Goals as goal

pub loop-attempts-preserved : goal.loop-attempts-preserved
loop-attempts-preserved g c =
    let place : c.len-in-loop-attempts-2.result ≡ length c.loop-attempts.attempts.items = search rules in
    let count = count_pushed _ c.loop-attempts.attempts.items _ c.push_reserved.ensures.items in (
      skipped _ _ c.loop-attempts.invariant.0 c.in-Marked.ensures.step c.push_reserved.ensures.items,
      record { servers = grind (arith, common_steps); unanswered = grind (arith, common_steps) },
      grind (arith, common_steps),
      omega (arith, c.push_reserved.ensures.capacity, c.loop-attempts.invariant.3),
      cc,
      cc,
      λ original is. let P : ℕ → Type 0 = λ n. c.prepare.new.request ≡ form_at c.args.exptime original n in
          subst P count (prepared c.args.exptime original c.prepare.ensures place (c.loop-attempts.invariant.6 original is)),
    )

pub returns-in-Up-clause-calls : goal.returns-in-Up-clause-calls
returns-in-Up-clause-calls g c =
    let tried = c.loop-attempts.invariant.1 in
    let server = slice_index c.args.targets.now c.len-in-loop-attempts.result in
    found_up (record { attempts = c.loop-attempts.attempts.items; room = vec_capacity c.loop-attempts.attempts; server = server }) _
    (record {
      tried = record { servers = tried.servers; shorter = search rules; unanswered = tried.unanswered };
      room = c.loop-attempts.invariant.3;
      server = search rules;
    })
    c.in-Up.ensures.names c.loop-attempts.invariant.0 c.in-Up.ensures.step

pub returns-clause-calls : goal.returns-clause-calls
returns-clause-calls g c =
    none_left c.args.targets.now (all_tried c.loop-attempts.invariant.1 (search rules) c.of.ensures) c.of.ensures c.loop-attempts.invariant.0

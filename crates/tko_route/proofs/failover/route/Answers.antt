use Rattle.std.proofs.Common.{◌≡◌, ◌++◌, ◌∷◌, Ok, length, map, refl, subst, arith}
use Rattle.std.proofs.lemmas.Grind.{common_steps}
use Rattle.tko_model.proofs.RecordLemmas.{gains_none}
use Rattle.tko_text.specs.SentRequests.{without_noreply}
use Rattle.tko_route.specs.Calls.{Told, came, upstream}
use Rattle.tko_route.specs.declared.routing.Stage.{Stage}
use Rattle.tko_route.specs.Routing.{Reached, last_place}
use Rattle.tko_route.specs.Trail.{form_at}
use Rattle.tko_route.proofs.MadeLemmas.{gains_told, is_cut, is_routed, made_sent}
use Rattle.tko_route.proofs.failover.route.Goals as goal

pub loop-stage-init : goal.loop-stage-init
loop-stage-init g c =
    let form = form_at c.args.exptime (without_noreply c.args.request.now) in
    let on = c.in-Ok.ensures.calls in (
      (map Told on.items, on.is form, gains_told (upstream g.H.Health g.L.Links) (gains_none (c.args.health.now, c.args.links.now)) on.gains),
      c.begin.ensures.servers,
      refl,
      c.in-Ok.ensures.ok_request,
      λ s. refl,
    )

pub returns-in-Done-clause-ok : goal.returns-in-Done-clause-ok
returns-in-Done-clause-ok g c =
    let form = form_at c.args.exptime (without_noreply c.args.request.now) in
    let so_far = c.loop-stage.invariant.0 in
    let at = subst (λ (s : Stage). Reached c.args.targets.now form so_far.0 s) c.in-Done.is so_far.1 in record {
      routed = is_routed (upstream g.H.Health g.L.Links) {old = (c.args.health.now, c.args.links.now)} so_far.2 at.0 at.1;
      form_is = subst (λ (s : Stage). c.loop-stage.request ≡ form (last_place s)) c.in-Done.is c.loop-stage.invariant.3;
    }

pub returns-in-Err-clause-err : goal.returns-in-Err-clause-err
returns-in-Err-clause-err g c =
    let form = form_at c.args.exptime (without_noreply c.args.request.now) in
    let so_far = c.loop-stage.invariant.0 in
    let at = subst (λ (s : Stage). Reached c.args.targets.now form so_far.0 s) c.in-Away.is so_far.1 in
    let form_is = subst (λ (s : Stage). c.loop-stage.request ≡ form (last_place s)) c.in-Away.is c.loop-stage.invariant.3 in
    rw (c.stop.ensures.trail, c.stop.ensures.sent) (record {
      cut =
          is_cut (upstream g.H.Health g.L.Links) {old = (c.args.health.now, c.args.links.now)} so_far.2
          at.2 at.0.tried at.0.server at.1
          (record { item = c.in-Err.ensures.record; spent = c.in-Err.ensures.spent; sends = c.in-Err.ensures.sends }) form_is;
      form_is = form_is;
    })

pub loop-stage-preserved : goal.loop-stage-preserved
loop-stage-preserved g c =
    let form = form_at c.args.exptime (without_noreply c.args.request.now) in
    let so_far = c.loop-stage.invariant.0 in
    let at = subst (λ (s : Stage). Reached c.args.targets.now form so_far.0 s) c.in-Away.is so_far.1 in
    let form_is = subst (λ (s : Stage). c.loop-stage.request ≡ form (last_place s)) c.in-Away.is c.loop-stage.invariant.3 in
    let on = c.answered-stage.ensures.calls in
    let item = came c.in-Away.awaited.server (form (length c.in-Away.awaited.attempts)) (Ok c.in-Ok-exchange.outcome) in (
      (
        so_far.0 ++ item ∷ map Told on.items,
        on.is form so_far.0 at.2,
        made_sent (upstream g.H.Health g.L.Links) {old = (c.args.health.now, c.args.links.now)} so_far.2 at.1
            (record { item = c.in-Ok-exchange.ensures.record; spent = c.in-Ok-exchange.ensures.spent; sends = c.in-Ok-exchange.ensures.sends })
            form_is on.gains,
      ),
      cc,
      cc,
      c.answered-stage.ensures.request (without_noreply c.args.request.now) form_is,
      grind (arith, common_steps),
    )

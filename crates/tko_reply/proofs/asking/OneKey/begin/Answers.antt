use Rattle.std.proofs.Common.{◌≡◌, refl, rules}
use Rattle.std.proofs.lemmas.Result.{err_from_is_err_and}
use Rattle.tko_route.specs.Trail.{form_at}
use Rattle.tko_text.specs.SentRequests.{without_noreply}
use Rattle.tko_reply.proofs.GoingLemmas.{begin_goes, begin_lost, front_same, key_dropped}
use Rattle.tko_reply.proofs.GoingLemmas.{lost_untried}
use Rattle.tko_reply.proofs.ResultLemmas.{both_ok}
use Rattle.tko_reply.proofs.asking.OneKey.begin.Goals as goal

pub returns-in_err-find_targets-clause-dropped : goal.returns-in_err-find_targets-clause-dropped
returns-in_err-find_targets-clause-dropped g c =
    let p = err_from_is_err_and c.from_residual.result c.from_residual.ensures.1 in
    rw (p.1) (record {
      kept = front_same c.args.self.now.share c.args.outbox.now;
      lost = lost_untried refl p.2;
    })

pub returns-in_err-stage-clause-dropped : goal.returns-in_err-stage-clause-dropped
returns-in_err-stage-clause-dropped g c =
    let p = err_from_is_err_and c.from_residual-in_err-stage.result
    c.from_residual-in_err-stage.ensures.1 in
    rw (p.1) (record {
      kept = front_same c.args.self.now.share c.args.outbox.now;
      lost = lost_untried c.in_err-stage.ensures.err.health p.2;
    })

pub returns-clause-ok : goal.returns-clause-ok
returns-clause-ok g c =
    let form = form_at c.args.config.now.failover_exptime
    (without_noreply c.args.self.now.request) in
    let on = c.in_ok-stage.ensures in
    let same : c.deref.result.now ≡ c.find_targets.new.targets.items = search rules in
    both_ok c.settle.result c.settle.ensures.ok c.settle.ensures.same (λ at settles is.
    begin_goes c.in_ok-stage.stage _ c.args.self.now.share _ form
    (rw c.failover_exptime-exptime.ensures at on.ok_request) (rw same at on.calls) is settles)

pub returns-clause-dropped : goal.returns-clause-dropped
returns-clause-dropped g c =
    let on = c.in_ok-stage.ensures in
    let same : c.deref.result.now ≡ c.find_targets.new.targets.items = search rules in
    key_dropped c.args.self.now.share c.args.outbox.now c.settle.new.outbox c.settle.result
    c.settle.ensures.err c.settle.ensures.lost
    (λ trail is. begin_lost c.in_ok-stage.stage _ trail c.in_ok-find_targets.ensures.ok
    (rw same at on.calls) is)

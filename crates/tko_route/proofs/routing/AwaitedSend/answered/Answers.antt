use Rattle.std.proofs.Common.{◌≡◌, ℕ, ap, subst}
use Rattle.tko_route.specs.Trail.{IsRecorded, op_of}
use Rattle.tko_route.specs.Underway.{Awaited}
use Rattle.tko_route.proofs.RecordedLemmas.{is_replied, record_then}
use Rattle.tko_route.proofs.routing.AwaitedSend.answered.Goals as goal

pub recorded-requires-clause-sent : goal.recorded-requires-clause-sent
recorded-requires-clause-sent g c = record {
  awaited = c.requires.awaited;
  replied =
      is_replied g.H.Health.steps c.args.health.now c.self.inside.server (op_of c.args.outcome) c.record_outcome-reply.result c.record_outcome-reply.new.health
      c.record_outcome-reply.ensures.recorded;
}

pub returns-clause-calls : goal.returns-clause-calls
returns-clause-calls g c =
    let at : c.self.inside.server ≡ c.args.self.server = ap (λ (it : Awaited). it.server) c.self.view_is in
    let P : ℕ → Type 0 =
    λ n. IsRecorded g.H.Health.steps c.args.health.now n (op_of c.args.outcome) c.record_outcome-reply.result c.record_outcome-reply.new.health in
    record_then c.args.targets.now c.args.self c.args.outcome c.record_outcome-reply.result c.recorded.result
    (subst P at c.record_outcome-reply.ensures.recorded) c.recorded.ensures.calls

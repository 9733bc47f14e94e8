use Rattle.std.proofs.Common.{rules}
use Rattle.std.specs.Option.{IsSome}
use Rattle.tko_route.specs.Trail.{answer_of}
use Rattle.tko_route.proofs.RecordedLemmas.{done_then, then_on}
use Rattle.tko_route.proofs.RoutingLemmas.{is_done, is_tried}
use Rattle.tko_route.proofs.routing.AwaitedSend.recorded.Goals as goal

pub returns-then-is_answered-clause-calls : goal.returns-then-is_answered-clause-calls
returns-then-is_answered-clause-calls g c =
    let targets = c.args.targets.now in
    let answered : IsSome (answer_of c.attempts_with-attempts.result.items) = search rules in
    let whole = is_done (c.attempts_with-attempts.ensures.concluded targets c.requires.sent.awaited) answered c.of.ensures in
    done_then c.args.health.now targets c.args.self c.args.outcome c.args.reply whole c.of.ensures c.attempts_with-attempts.ensures.calls

pub look_on-requires-clause-attempts : goal.look_on-requires-clause-attempts
look_on-requires-clause-attempts g c =
    let awaited = c.requires.sent.awaited in
    let none : ¬ IsSome (answer_of c.attempts_with-attempts.result.items) = search rules in record {
      room = rw c.attempts_with-attempts.ensures.room awaited.room;
      tried = is_tried (c.attempts_with-attempts.ensures.concluded c.args.targets.now awaited) none;
    }

pub returns-clause-calls : goal.returns-clause-calls
returns-clause-calls g c =
    then_on c.args.targets.now c.args.self c.args.outcome c.args.reply c.look_on.result c.attempts_with-attempts.ensures.calls c.look_on.ensures.calls

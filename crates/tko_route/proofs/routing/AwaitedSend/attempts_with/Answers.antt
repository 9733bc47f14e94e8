use Rattle.std.proofs.Common.{◌≡◌, ◌++◌, ◌∷◌, [], rules}
use Rattle.tko_route.proofs.RecordedLemmas.{makes_recorded}
use Rattle.tko_route.proofs.RoutingLemmas.{concluded_again}
use Rattle.tko_route.specs.Trail.{server_of}
use Rattle.tko_route.proofs.routing.AwaitedSend.attempts_with.Goals as goal

pub returns-clause-calls : goal.returns-clause-calls
returns-clause-calls c = λ form calls up.
    let at : server_of c.conclude.result ≡ c.args.self.server = search rules in
    let parts : c.push_reserved.new.self.items ≡ c.args.self.attempts ++ c.conclude.result ∷ [] = search rules in
    makes_recorded c.args.self c.conclude.result c.args.outcome c.args.reply c.requires c.conclude.ensures.outcome c.conclude.ensures.reply at parts up

pub returns-clause-concluded : goal.returns-clause-concluded
returns-clause-concluded c = λ targets awaited.
    let at : server_of c.conclude.result ≡ c.args.self.server = search rules in
    let parts : c.push_reserved.new.self.items ≡ c.args.self.attempts ++ c.conclude.result ∷ [] = search rules in
    concluded_again c.conclude.result awaited at parts

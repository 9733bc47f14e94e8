use Rattle.std.proofs.Common.{rules, ◌≡◌, ◌∷◌, drop}
use Rattle.tko_pipe.proofs.PipeLemmas.{answered, first_and_others, first_here, read_by_own}
use Rattle.tko_pipe.proofs.pipe.Pipe.take_connected.Goals as goal

pub returns-in-Ok : goal.returns-in-Ok
returns-in-Ok c =
    let first = c.in-Some.first.now in
    let others = drop 1 c.self.inside.waiters.items in
    let waiters : c.self.inside.waiters.items ≡ first ∷ others =
    first_and_others c.self.inside.waiters.items first (search rules) (search rules) in
    answered _ c.args.self.now c.args.request.now first others c.in-Ok.response
    c.take_response.new.self c.end_first.new.self c.self.view_is (search rules) waiters
    (search rules) (search rules)
    (read_by_own first.by c.args.request.now c.self.inside.forms.items
    (first_here c.self.inside.waiters.items others first waiters (search rules)))
    (search rules) (c.end_first.ensures first others waiters)

use Rattle.std.proofs.Common.{rules, ◌≡◌, ◌∙◌, ◌<◌, length, subst}
use Rattle.std.specs.Prelude.{vec_len}
use Rattle.tko_threads.proofs.pooling.pool.Goals as goal

pub returns-clause-worked : goal.returns-clause-worked
returns-clause-worked g c = λ place m e within.
    let began : vec_len c.args.members ≡ length c.args.members.items = search rules in
    let below = subst (λ count. place < count) (c.in_ok-map_vec.ensures.len ∙ began) within in
    let given = (c.in_ok-map_vec.ensures.each place e below).1 in
    rw (given.job_is m) given.call.met.1

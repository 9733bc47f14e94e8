use Rattle.std.proofs.Common.{rules, ◌-◌, ◌∙◌, sym, arith}
use Rattle.tko_pipe.proofs.WaiterLemmas.{behind_found, behind_none}
use Rattle.tko_pipe.proofs.waiters.behind_gone.Goals as goal

pub returns-then-has_gone : goal.returns-then-has_gone
returns-then-has_gone c =
    behind_found c.args.waiters.now.items (c.loop-place.place - 1) c.loop-place.place
    c.index.result.now (search rules) (omega arith) c.index.ensures
    (sym c.has_gone.ensures ∙ c.if-has_gone.true) c.loop-place.invariant

pub returns : goal.returns
returns c =
    behind_none c.args.waiters.now.items c.loop-place.place (search rules) c.loop-place.invariant

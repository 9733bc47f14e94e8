use Rattle.std.proofs.Common.{rules}
use Rattle.tko_pipe.proofs.PipeLemmas.{left_first}
use Rattle.tko_pipe.proofs.pipe.Pipe.leave.Goals as goal

pub returns : goal.returns
returns c =
    left_first _ c.args.self.now c.in-Shut.fates c.after.result c.in_ok-waiter.waiter
    c.pop_front.new.self.items c.fate_for.result c.self.view_is (search rules) (search rules)
    c.fate_for.ensures c.after.ensures

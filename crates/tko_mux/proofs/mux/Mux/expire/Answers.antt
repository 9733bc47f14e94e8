use Rattle.std.proofs.Common.{rules}
use Rattle.std.specs.Prelude.{IsSome}
use Rattle.tko_mux.proofs.LineLemmas.{expire_waits, pipe_waits}
use Rattle.tko_mux.proofs.ReadLemmas.{line_linked, of_line, none_leaving}
use Rattle.tko_mux.proofs.mux.Mux.expire.Goals as goal

pub expire-requires-clause-pipe : goal.expire-requires-clause-pipe
expire-requires-clause-pipe g c =
    of_line (λ line. IsSome line.pipe) _ c.args.self.now c.args.server c.index_mut.result.now
    c.self.view_is
    (search rules) c.index_mut.ensures.value c.requires.pipe

pub expire-requires-clause-left : goal.expire-requires-clause-left
expire-requires-clause-left g c =
    none_leaving _ c.args.self.now c.args.server c.index_mut.result.now c.self.view_is
    (search rules) c.index_mut.ensures.value c.requires.may_shut.left

pub returns-clause-linked : goal.returns-clause-linked
returns-clause-linked g c =
    line_linked g.S.Asking.awaited _ c.args.self.now c.args.server c.index_mut.result.now
    c.expire.new.self c.self.view_is (search rules) c.index_mut.ensures.value c.requires.linked
    (pipe_waits _ c.index_mut.result.now c.expire.new.self
    (none_leaving _ c.args.self.now c.args.server c.index_mut.result.now c.self.view_is
    (search rules) c.index_mut.ensures.value c.requires.may_shut.left)
    (λ was it ends. expire_waits c.args.now c.expire.result was it ends) c.expire.ensures)

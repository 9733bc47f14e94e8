use Rattle.std.proofs.Common.{rules, ◌≡◌, Some, ap}
use Rattle.std.specs.Prelude.{IsSome}
use Rattle.tko_pipe.specs.Pipes.{IsCause, PipeState}
use Rattle.tko_mux.proofs.LineLemmas.{pipe_waits}
use Rattle.tko_mux.proofs.ReadLemmas.{line_linked, of_line, none_leaving}
use Rattle.tko_mux.proofs.mux.Mux.shut.Goals as goal

pub shut-requires-clause-pipe : goal.shut-requires-clause-pipe
shut-requires-clause-pipe g c =
    of_line (λ line. IsSome line.pipe) _ c.args.self.now c.args.server c.index_mut.result.now
    c.self.view_is
    (search rules) c.index_mut.ensures.value c.requires.pipe

pub shut-requires-clause-left : goal.shut-requires-clause-left
shut-requires-clause-left g c =
    none_leaving _ c.args.self.now c.args.server c.index_mut.result.now c.self.view_is
    (search rules) c.index_mut.ensures.value c.requires.may_shut.left

pub shut-requires-clause-cause : goal.shut-requires-clause-cause
shut-requires-clause-cause g c =
    of_line (λ line. (pipe : PipeState) → line.pipe ≡ Some pipe → IsCause pipe c.args.cause) _
    c.args.self.now c.args.server c.index_mut.result.now c.self.view_is
    (search rules) c.index_mut.ensures.value c.requires.cause

pub returns-clause-linked : goal.returns-clause-linked
returns-clause-linked g c =
    line_linked g.S.Asking.awaited _ c.args.self.now c.args.server c.index_mut.result.now
    c.shut.new.self c.self.view_is (search rules) c.index_mut.ensures.value c.requires.linked
    (pipe_waits _ c.index_mut.result.now c.shut.new.self
    (none_leaving _ c.args.self.now c.args.server c.index_mut.result.now c.self.view_is
    (search rules) c.index_mut.ensures.value c.requires.may_shut.left)
    (λ was it is. ap (λ (p : PipeState). p.waiters) is.state) c.shut.ensures)

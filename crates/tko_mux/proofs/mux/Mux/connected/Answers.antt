use Rattle.std.proofs.Common.{rules, ◌≡◌, Some, ap}
use Rattle.tko_pipe.specs.declared.link.Link.TheVariants.{Connecting}
use Rattle.tko_pipe.specs.Pipes.{PipeState}
use Rattle.tko_mux.specs.Lines.{link_on}
use Rattle.tko_mux.proofs.LineLemmas.{live_waits}
use Rattle.tko_mux.proofs.ReadLemmas.{line_linked, of_line}
use Rattle.tko_mux.proofs.mux.Mux.connected.Goals as goal

pub connected-requires : goal.connected-requires
connected-requires g c =
    of_line (λ line. link_on line.pipe ≡ Some Connecting) _ c.args.self.now c.args.server
    c.index_mut.result.now c.self.view_is
    (search rules) c.index_mut.ensures.value c.requires.connecting

pub returns-clause-linked : goal.returns-clause-linked
returns-clause-linked g c =
    line_linked g.S.Asking.awaited _ c.args.self.now c.args.server c.index_mut.result.now
    c.connected.new.self c.self.view_is (search rules) c.index_mut.ensures.value c.requires.linked
    (live_waits _ c.index_mut.result.now c.connected.new.self
    (λ was now is. ap (λ (p : PipeState). p.waiters) is.state) c.connected.ensures)

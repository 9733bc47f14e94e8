use Rattle.std.proofs.Common.{rules, ◌≡◌, ◌≤◌, Some, ap, length}
use Rattle.tko_pipe.specs.declared.link.Link.TheVariants.{Connected}
use Rattle.tko_pipe.specs.Pipes.{PipeState}
use Rattle.tko_mux.specs.Lines.{link_on, unwritten_on}
use Rattle.tko_mux.proofs.LineLemmas.{live_waits}
use Rattle.tko_mux.proofs.ReadLemmas.{line_linked, of_line}
use Rattle.tko_mux.proofs.mux.Mux.wrote.Goals as goal

pub wrote-requires-clause-connected : goal.wrote-requires-clause-connected
wrote-requires-clause-connected g c =
    of_line (λ line. link_on line.pipe ≡ Some Connected) _ c.args.self.now c.args.server
    c.index_mut.result.now c.self.view_is
    (search rules) c.index_mut.ensures.value c.requires.connected

pub wrote-requires-clause-within : goal.wrote-requires-clause-within
wrote-requires-clause-within g c =
    of_line (λ line. c.args.count ≤ length (unwritten_on line.pipe)) _ c.args.self.now c.args.server
    c.index_mut.result.now c.self.view_is
    (search rules) c.index_mut.ensures.value c.requires.within

pub returns-clause-linked : goal.returns-clause-linked
returns-clause-linked g c =
    line_linked g.S.Asking.awaited _ c.args.self.now c.args.server c.index_mut.result.now
    c.wrote.new.self c.self.view_is (search rules) c.index_mut.ensures.value c.requires.linked
    (live_waits _ c.index_mut.result.now c.wrote.new.self
    (λ was now is. ap (λ (p : PipeState). p.waiters) is.state) c.wrote.ensures)

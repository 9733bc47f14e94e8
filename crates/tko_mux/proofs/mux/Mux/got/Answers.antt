use Rattle.std.proofs.Common.{rules, ◌≡◌, Some}
use Rattle.tko_pipe.specs.declared.link.Link.TheVariants.{Connected}
use Rattle.tko_mux.specs.Lines.{link_on}
use Rattle.tko_mux.proofs.LineLemmas.{got_waits, pipe_waits}
use Rattle.tko_mux.proofs.ReadLemmas.{line_linked, of_line, none_leaving}
use Rattle.tko_mux.proofs.mux.Mux.got.Goals as goal

pub got-requires-clause-connected : goal.got-requires-clause-connected
got-requires-clause-connected g c =
    of_line (λ line. link_on line.pipe ≡ Some Connected) _ c.args.self.now c.args.server
    c.index_mut.result.now c.self.view_is
    (search rules) c.index_mut.ensures.value c.requires.connected

pub got-requires-clause-left : goal.got-requires-clause-left
got-requires-clause-left g c =
    none_leaving _ c.args.self.now c.args.server c.index_mut.result.now c.self.view_is
    (search rules) c.index_mut.ensures.value c.requires.may_shut.left

pub returns-clause-linked : goal.returns-clause-linked
returns-clause-linked g c =
    line_linked g.S.Asking.awaited _ c.args.self.now c.args.server c.index_mut.result.now
    c.got.new.self c.self.view_is (search rules) c.index_mut.ensures.value c.requires.linked
    (pipe_waits _ c.index_mut.result.now c.got.new.self
    (none_leaving _ c.args.self.now c.args.server c.index_mut.result.now c.self.view_is
    (search rules) c.index_mut.ensures.value c.requires.may_shut.left)
    (λ was it ends. got_waits c.args.bytes.now c.args.now c.got.result was it ends) c.got.ensures)

use Rattle.std.proofs.Common.{refl}
use Rattle.tko_port.proofs.WireLemmas.{cause_line, other_lines, pipe_line, shut_link}
use Rattle.tko_mux.specs.Muxes.{line_at}
use Rattle.tko_port.proofs.wire.give_up.Goals as goal

pub shut-requires-clause-pipe : goal.shut-requires-clause-pipe
shut-requires-clause-pipe g c =
    pipe_line (line_at c.args.mux.now c.args.server) c.requires.made.link

pub shut-requires-clause-cause : goal.shut-requires-clause-cause
shut-requires-clause-cause g c =
    cause_line (line_at c.args.mux.now c.args.server) c.args.cause c.requires.cause

pub returns-clause-shut : goal.returns-clause-shut
returns-clause-shut g c = record {
  shut = c.shut.ensures.shut.on;
  gone = refl;
  link = shut_link c.args.mux.now.lines c.shut.new.self.lines c.args.server c.args.cause
      c.shut.ensures.shut.on;
  others = other_lines _ c.args.mux.now.lines c.shut.new.self.lines c.args.server
      c.shut.ensures.shut.on;
}

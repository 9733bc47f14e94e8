use Rattle.std.proofs.Common.{take, flat_map}
use Rattle.tko_demo.specs.Exchanges.{shown_text}
use Rattle.tko_demo.specs.Playing.{HasPlayed, IsShown}
use Rattle.tko_demo.proofs.playing.play.Given as goal

-- the exchanges so far were played and shown
abbrev pub invariant-loop-exchange : goal.invariant-loop-exchange
invariant-loop-exchange g l =
    HasPlayed g.I.Inlet.gives g.C.Outlet.takes l.at.near.now l.at.far.now (take l.exchange-index l.exchanges) l.fn.caller l.caller
    × IsShown g.O.Outlet.takes g.O.Outlet.failures (flat_map shown_text (take l.exchange-index l.exchanges)) l.fn.output l.output

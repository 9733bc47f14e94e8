use Rattle.std.proofs.Common.{◌≡◌}
use Rattle.tko_demo.specs.Playing.{HasWaited}
use Rattle.tko_demo.specs.declared.playing.Caller.{Caller}
use Rattle.tko_demo.proofs.playing.play_until_unmarked.Given as goal

-- what is waited from here on was waited from the beginning, and nothing was shown yet
abbrev pub invariant-loop : goal.invariant-loop
invariant-loop g l =
    ((last : Caller g.row.I.Denot g.row.C.Denot) → HasWaited g.I.Inlet.gives g.C.Outlet.takes l.at.near.now l.at.far.now l.caller last
    → HasWaited g.I.Inlet.gives g.C.Outlet.takes l.at.near.now l.at.far.now l.fn.caller last)
    × (l.output ≡ l.fn.output)

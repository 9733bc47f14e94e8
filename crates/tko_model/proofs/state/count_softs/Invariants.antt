use Rattle.std.proofs.Common.{◌≡◌, ◌+◌, ◌≤◌, drop}
use Rattle.tko_model.specs.Tracker.{softs_from, softs_in}
use Rattle.tko_model.proofs.state.count_softs.Given as goal

-- the soft marks that were counted and those that are left make them all
abbrev pub invariant-loop-server : goal.invariant-loop-server
invariant-loop-server l =
    (l.count + softs_from l.settings l.group l.server (drop l.server l.servers) ≡ softs_in l.settings l.group l.servers)
    × (l.count ≤ l.server)

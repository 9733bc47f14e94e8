use Rattle.std.proofs.Common.{◌≡◌, ◌<◌, ℕ, None}
use Rattle.tko_roster.specs.Rosters.{session_at}
use Rattle.tko_roster.proofs.roster.Roster.is_empty.Given as goal

abbrev pub invariant-loop-number : goal.invariant-loop-number
invariant-loop-number g l =
    (number : ℕ) → number < l.number → session_at l.self.slots number ≡ None

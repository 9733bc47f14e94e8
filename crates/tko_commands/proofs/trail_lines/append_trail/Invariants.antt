use Rattle.std.proofs.Common.{◌≡◌, ◌++◌, drop}
use Rattle.tko_commands.specs.Texts.{trail_text}
use Rattle.tko_commands.proofs.trail_lines.append_trail.Given as goal

-- the lines so far and those of the attempts that are left
abbrev pub invariant-loop-attempt : goal.invariant-loop-attempt
invariant-loop-attempt l =
    l.out.items ++ trail_text l.number (drop l.attempt-index l.attempts)
    ≡ l.initial.out.items ++ trail_text l.number l.attempts

use Rattle.std.proofs.Common.{◌≡◌, ◌+◌, ◌++◌, drop}
use Rattle.tko_commands.specs.Texts.{trails_text}
use Rattle.tko_commands.proofs.trail_lines.trail_lines.Given as goal

-- the lines so far and those of the trails that are left
abbrev pub invariant-loop-place : goal.invariant-loop-place
invariant-loop-place l = l.out.items ++ trails_text (l.place + 1) (drop l.place l.trails) ≡ trails_text 1 l.trails

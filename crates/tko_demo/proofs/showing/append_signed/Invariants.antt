use Rattle.std.proofs.Common.{◌≡◌, ◌++◌, length}
use Rattle.tko_demo.specs.Exchanges.{signed_lines}
use Rattle.tko_demo.proofs.showing.append_signed.Given as goal

-- the lines so far and those that are left
abbrev pub invariant-loop-rest : goal.invariant-loop-rest
invariant-loop-rest l =
    l.out.items ++ signed_lines l.sign l.rest ≡ l.initial.out.items ++ signed_lines l.sign l.text

abbrev pub decreases-loop-rest : goal.decreases-loop-rest
decreases-loop-rest l = length l.rest

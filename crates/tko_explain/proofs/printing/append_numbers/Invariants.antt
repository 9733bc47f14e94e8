use Rattle.std.proofs.Common.{◌≡◌, ◌++◌, drop}
use Rattle.tko_explain.specs.Printing.{numbers_text}
use Rattle.tko_explain.proofs.printing.append_numbers.Given as goal

-- the text so far and that of the numbers that are left
abbrev pub invariant-loop-number : goal.invariant-loop-number
invariant-loop-number l =
    l.out.items ++ numbers_text (drop l.number-index l.numbers) ≡ l.initial.out.items ++ numbers_text l.numbers

use Rattle.std.proofs.Common.{◌≤◌, length, take}
use Rattle.tko_explain.specs.Counts.{AreCountedOnce}
use Rattle.tko_explain.proofs.counts.count_each.Given as goal

-- the rows of the numbers so far counted them
abbrev pub invariant-loop-place : goal.invariant-loop-place
invariant-loop-place l = record {
  long : l.place ≤ length l.rows.items;
  counted : AreCountedOnce (take l.place l.numbers) l.initial.rows.items l.rows.items;
}

-- What several calls, one after another, leave of a worker as it was.
use Rattle.std.proofs.Common.{◌∙◌}
use Rattle.tko_worker.specs.Changes.{KeepsClients, OnlyLinesChange}
use Rattle.tko_worker.specs.Workers.{WorkerState}

pub keeps_on : {L T P : Type 0} {one two three : WorkerState L T P} → KeepsClients one two
    → KeepsClients two three → KeepsClients one three
keeps_on first second = record {
  slots = second.slots ∙ first.slots;
  touched = second.touched ∙ first.touched;
  spent = second.spent ∙ first.spent;
  ends = second.ends ∙ first.ends;
}

pub lines_on : {L T P : Type 0} {one two three : WorkerState L T P} → OnlyLinesChange one two
    → OnlyLinesChange two three → OnlyLinesChange one three
lines_on first second = record {
  roster = second.roster ∙ first.roster;
  limit = second.limit ∙ first.limit;
  touched = second.touched ∙ first.touched;
  spent = second.spent ∙ first.spent;
  ends = second.ends ∙ first.ends;
}

use Rattle.std.proofs.Common.{rules, ◌++◌}
use Rattle.tko_bytes.specs.Lines.{SplitsAtEnd}
use Rattle.tko_explain.proofs.BegunLemmas.{taken_line}
use Rattle.tko_explain.proofs.key_counts.KeyCounts.take.Goals as goal

pub loop-line-preserved : goal.loop-line-preserved
loop-line-preserved c = λ json list against is.
    let split : SplitsAtEnd c.loop-line.rest.now c.in-Some.line.now c.in-Some.after.now = search rules in
    taken_line json against (list ++ c.args.piece.now) c.loop-line.rest.now c.in-Some.line.now
    c.in-Some.after.now c.loop-line.self c.end_line.new.self (c.loop-line.invariant json list against is)
    split (λ so_far. c.in_ok-end_line.ensures split.unended json so_far against)

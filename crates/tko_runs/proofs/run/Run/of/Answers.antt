use Rattle.std.proofs.Common.{rules}
use Rattle.std.proofs.lemmas.Bool.{iff_false}
use Rattle.tko_runs.proofs.ClaimLemmas.{has_come-all, has_come-bad, has_come-more, has_come-none}
use Rattle.tko_model.specs.Ranges.{IsWithinRanges}
use Rattle.tko_runs.proofs.run.Run.of.Goals as goal

pub returns-in-Err-clause-err : goal.returns-in-Err-clause-err
returns-in-Err-clause-err c = (c.check.ensures.err c.in-Err.outside).0 c.in-Err.is

pub loop-place-init : goal.loop-place-init
loop-place-init c = rw c.in_ok-state.ensures (has_come-none c.args.settings _)

pub returns-then-not-admits-clause-err : goal.returns-then-not-admits-clause-err
returns-then-not-admits-clause-err c =
    let settings : IsWithinRanges c.args.settings = search rules in
    let cannot = iff_false c.admits.ensures c.if-not-admits.true in
    let bad = has_come-bad _ _ _ _ _ c.loop-place.invariant c.loop-place-test.true cannot in
    (settings, rw c.deref-event-items.ensures.value at bad)

pub loop-place-preserved : goal.loop-place-preserved
loop-place-preserved c =
    let can = c.admits.ensures.0 c.if-not-admits.false in
    rw c.record.ensures (has_come-more _ _ _ _ _ c.loop-place.invariant c.loop-place-test.true can)

pub new-requires-2 : goal.new-requires-2
new-requires-2 c = record {
  settings = search rules;
  events =
      let come = has_come-all _ _ _ _ c.loop-place.invariant c.loop-place-test.false c.loop-place.auto.place-end in
      rw c.deref-event-items.ensures.value at come;
}

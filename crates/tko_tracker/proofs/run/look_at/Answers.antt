use Rattle.std.proofs.Common.{refl, rules}
use Rattle.tko_steps.specs.declared.table.Observed.TheVariants as seen
use Rattle.tko_tracker.proofs.LookUpLemmas.{looked-up}
use Rattle.tko_tracker.proofs.run.look_at.Goals as goal

pub returns-clause-ran : goal.returns-clause-ran
returns-clause-ran c =
    let words = c.args.words.now in
    let took = c.look_up.ensures.step in
    let found = c.look_up.result in
    looked-up words.settings words.ranges c.args.number c.args.server _ found (seen.Server found) _ c.requires.idle refl (record {
      old = took.old;
      new = took.new;
      was = took.was;
      is = took.is;
      step = record { takes = took.takes; sure = λ found mark is marked. search rules };
      sound = c.look_up.ensures.sound;
    })

use Rattle.std.proofs.Common.{arith}
use Rattle.std.proofs.lemmas.Grind.{common_steps}
use Rattle.tko_word.proofs.WordLemmas.{server_in_is}
use Rattle.tko_word.proofs.health.pack.Goals as goal

pub returns-clause-back : goal.returns-clause-back
returns-clause-back c =
    server_in_is _ c.args.mark c.args.stamp c.requires.mark (grind (arith, common_steps))

pub returns-clause-valid : goal.returns-clause-valid
returns-clause-valid c =
    record {
      mark = c.args.mark;
      stamp = c.args.stamp;
      allowed = c.requires.mark;
      below = c.requires.stamp;
      is = grind (arith, common_steps);
    }

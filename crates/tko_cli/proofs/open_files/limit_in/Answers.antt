use Rattle.std.proofs.Common.{◌∙◌, arith, sym}
use Rattle.tko_cli.proofs.LimitLemmas.{decided, passed, untold}
use Rattle.tko_cli.proofs.open_files.limit_in.Goals as goal

pub loop-rest-preserved : goal.loop-rest-preserved
loop-rest-preserved c =
    c.loop-rest.invariant ∙ passed _ _ _ c.first_line.ensures.lines c.in_default.ensures

pub returns-in-Some : goal.returns-in-Some
returns-in-Some c =
    c.limit_told.ensures
    ∙ sym (c.loop-rest.invariant ∙ decided _ _ _ _ c.first_line.ensures.lines c.in-Some.ensures)

pub returns : goal.returns
returns c = sym (c.loop-rest.invariant ∙ untold _ (grind arith))

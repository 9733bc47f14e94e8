use Rattle.std.proofs.Common.{◌++◌, ◌∙◌, ap, arith, append-nil, sym}
use Rattle.tko_demo.proofs.ShowLemmas.{no_lines}
use Rattle.tko_demo.proofs.showing.append_signed.Goals as goal

pub returns : goal.returns
returns c =
    sym (append-nil c.loop-rest.out.items)
    ∙ ap (λ t. c.loop-rest.out.items ++ t) (sym (no_lines c.args.sign.now _ (grind arith)))
    ∙ c.loop-rest.invariant

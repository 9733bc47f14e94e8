use Rattle.std.proofs.Common.{◌∷◌, ◌++◌, ap, sym, ◌∙◌}
use Rattle.tko_text.proofs.LineLemmas.{keys_bad}
use Rattle.tko_text.proofs.line.read_others.Goals as goal

pub returns-in-None-clause-is : goal.returns-in-None-clause-is
returns-in-None-clause-is c =
    let test = rw c.in-None.is at c.in_ok-key.ensures.test in
    keys_bad (c.args.first ∷ c.args.words) c.loop-word.keys.items c.next.new.self c.in-Some.word.now
    (ap (λ ws. c.loop-word.keys.items ++ ws) (sym c.in-Some.ensures) ∙ c.loop-word.invariant.parts) test

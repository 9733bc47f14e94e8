use Rattle.std.proofs.Common.{arith}
use Rattle.tko_word.proofs.WordLemmas.{IsWordIn-body, body-IsWordIn, masked}
use Rattle.tko_word.proofs.health.is_word_in.Goals as goal

pub returns : goal.returns
returns c =
    let s = c.args.settings.now in
    let word = c.args.word in
    let test = rw (masked word) at c.is_body.ensures in (
      λ e. IsWordIn-body c.args.layout s word (omega arith) (test.0 e),
      λ is. test.1 (body-IsWordIn c.args.layout s word is),
    )

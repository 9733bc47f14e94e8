use Rattle.std.proofs.Common.{arith}
use Rattle.std.proofs.lemmas.Option.{IfSome_then}
use Rattle.tko_text.proofs.FirstLineLemmas.{before_last_digit, before_only_digit}
use Rattle.tko_text.proofs.response.shared.before_word.Goals as goal

pub loop-left-preserved : goal.loop-left-preserved
loop-left-preserved c =
    let loop = c.loop-left in
    let rest = c.in_ok-rest.rest.now in record {
      ends = λ front others.
          loop.invariant.ends front
          (before_last_digit loop.rest.now rest front loop.left (omega arith) (omega arith)
          c.in_ok-rest.ensures others);
    }

pub returns : goal.returns
returns c =
    let loop = c.loop-left in
    IfSome_then c.before_first_digit.result c.before_first_digit.ensures
    (λ front is.
    loop.invariant.ends front.now
    (before_only_digit loop.rest.now front.now loop.left (omega arith) is))

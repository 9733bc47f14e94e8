use Rattle.std.proofs.Common.{◌≡◌, ◌+◌, ◌<◌, None, true, get_or, length, ◌∙◌, arith, rules, subst, take_all}
use Rattle.std.specs.Char.{is_ascii_digit}
use Rattle.tko_bytes.proofs.NumberLemmas.{AreDigits, digits_more, number_of-large, number_of-none, number_of-undecimal, number_read, value_more}
use Rattle.tko_bytes.proofs.numbers.number.Goals as goal

pub returns-then-is_empty-clause-value : goal.returns-then-is_empty-clause-value
returns-then-is_empty-clause-value c = number_of-none c.args.most c.args.word.now (search rules)

pub returns-then-not-is_ascii_digit-clause-value : goal.returns-then-not-is_ascii_digit-clause-value
returns-then-not-is_ascii_digit-clause-value c =
    number_of-undecimal c.args.most c.args.word.now c.loop-byte.byte-index c.loop-byte-test.true (search rules)

pub returns-in_err-checked_mul-clause-value : goal.returns-in_err-checked_mul-clause-value
returns-in_err-checked_mul-clause-value c =
    let word = c.args.word.now in
    let more = value_more word _ _ c.loop-byte-test.true (search rules) c.loop-byte.invariant.1 in
    let is : c.from_residual.result ≡ None = search rules in
    is ∙ number_of-large c.args.most word (c.loop-byte.byte-index + 1) (grind arith)

pub returns-in_err-value-clause-value : goal.returns-in_err-value-clause-value
returns-in_err-value-clause-value c =
    let word = c.args.word.now in
    let more = value_more word _ _ c.loop-byte-test.true (search rules) c.loop-byte.invariant.1 in
    let is : c.from_residual-in_err-value.result ≡ None = search rules in
    is ∙ number_of-large c.args.most word (c.loop-byte.byte-index + 1) (grind arith)

pub loop-byte-preserved : goal.loop-byte-preserved
loop-byte-preserved c =
    let word = c.args.word.now in
    let digit : is_ascii_digit (get_or word c.loop-byte.byte-index 0) ≡ true = search rules in
    let more = value_more word _ _ c.loop-byte-test.true digit c.loop-byte.invariant.1 in
    (digits_more word _ c.loop-byte-test.true digit c.loop-byte.invariant.0, grind arith, search rules)

pub returns-clause-value : goal.returns-clause-value
returns-clause-value c =
    let word = c.args.word.now in
    let whole = take_all c.loop-byte.byte-index word (omega arith) in
    let digits = subst AreDigits whole c.loop-byte.invariant.0 in
    let some : 0 < length word = search rules in
    c.then_some.ensures ∙ number_read c.args.most word c.loop-byte.value digits some (rw whole at c.loop-byte.invariant.1)

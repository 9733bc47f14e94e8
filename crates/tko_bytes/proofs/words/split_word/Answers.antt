use Rattle.std.proofs.Common.{ap, length, sym, ◌∙◌, arith}
use Rattle.std.proofs.lemmas.Bool.{eqb-true}
use Rattle.tko_bytes.proofs.WordLemmas.{words_blank, word_split}
use Rattle.tko_bytes.proofs.words.split_word.Goals as goal

pub returns-then-is_empty : goal.returns-then-is_empty
returns-then-is_empty c =
    words_blank c.args.line.now (sym (ap length c.without_spaces-line.ensures) ∙ eqb-true (length c.without_spaces-line.result.now) 0 (sym c.is_empty.ensures ∙ c.if-is_empty.true))

pub returns : goal.returns
returns c =
    word_split c.args.line.now c.without_spaces-line.result.now _ _ c.memchr.result c.unwrap_or-end.result
    c.without_spaces-line.ensures (grind arith) c.memchr.ensures c.unwrap_or-end.ensures c.split_at.ensures.front c.split_at.ensures.back

use Rattle.std.proofs.lemmas.Bool.Decides.{Decides-eqb}
use Rattle.std.proofs.lemmas.Slice.Eq.{strip_suffix_is}
use Rattle.tko_text.proofs.FirstLineLemmas.{before_end}
use Rattle.tko_text.proofs.response.shared.before_key.Goals as goal

pub returns : goal.returns
returns c =
    let bytes = c.args.bytes.now in
    let key = c.args.key.now in
    before_end bytes key c.strip_suffix.result
    (strip_suffix_is Decides-eqb bytes key c.strip_suffix.result c.strip_suffix.ensures.cases)

use Rattle.std.proofs.Common.{rules}
use Rattle.tko_explain.proofs.KeptLemmas.{kept_more}
use Rattle.tko_explain.proofs.key_counts.keep.Goals as goal

pub returns : goal.returns
returns c = λ line is.
    kept_more line c.args.bytes.now c.args.begun.now.items c.extend_from_slice.new.self.items
    c.min-more.result is (search rules) (search rules)

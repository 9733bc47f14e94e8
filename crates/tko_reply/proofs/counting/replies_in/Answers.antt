use Rattle.std.proofs.Common.{rules, tests, ◌∙◌}
use Rattle.std.proofs.lemmas.Iterator.{YieldsList-from_slice}
use Rattle.std.proofs.lemmas.Iterator.Consumers.{YieldsList-from_filter, count_from_yields_List}
use Rattle.std.proofs.lemmas.List.Sums.{length-filter}
use Rattle.tko_reply.specs.Counting.{is_replied}
use Rattle.tko_reply.proofs.counting.replies_in.Goals as goal

pub returns : goal.returns
returns c =
    count_from_yields_List c.filter.result c.count.result c.count.ensures.ran
    (YieldsList-from_filter _ is_replied
    (YieldsList-from_slice c.args.attempts.now cc) c.filter.ensures.closure
    (λ x r q k. search (rules, tests)))
    ∙ length-filter is_replied c.args.attempts.now

use Rattle.std.proofs.Common.{refl}
use Rattle.tko_reply.specs.Asking.{complete}
use Rattle.tko_reply.proofs.GoingLemmas.{continues_at}
use Rattle.tko_reply.proofs.ResultLemmas.{if_ok}
use Rattle.tko_reply.proofs.asking.OneKey.go_on.Goals as goal

pub returns-in-Whole-clause-ok : goal.returns-in-Whole-clause-ok
returns-in-Whole-clause-ok c = complete _ c.in-Whole.is refl refl

pub returns-in-Joined-clause-ok : goal.returns-in-Joined-clause-ok
returns-in-Joined-clause-ok c =
    if_ok c.join_next.result c.join_next.ensures.ok (λ keyed on. continues_at c.in-Joined.is on)

use Rattle.std.proofs.Common.{sym, ◌∙◌, true≢false}
use Rattle.tko_keys.proofs.DueLemmas.{when_some}
use Rattle.tko_keys.proofs.keys_at_once.KeysAtOnce.next_send.Goals as goal

pub returns-else-may_begin-clause-waits : goal.returns-else-may_begin-clause-waits
returns-else-may_begin-clause-waits c =
    when_some c.server_of-in-ByServer.result
    (λ together may. true≢false (sym (c.may_begin.ensures.1 may) ∙ c.if-may_begin.false))

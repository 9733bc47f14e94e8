use Rattle.std.proofs.Common.{◌≡◌, ◌≤◌, ◌++◌, length, rules, subst}
use Rattle.std.specs.Prelude.{OnOk}
use Rattle.tko_keys.specs.KeysState.{KeysState, values_and_end, reply_in}
use Rattle.tko_keys.proofs.ReplyLemmas.{finish_ends}
use Rattle.tko_keys.proofs.keys_at_once.KeysAtOnce.finish.Goals as goal

pub returns-clause-ok : goal.returns-clause-ok
returns-clause-ok c =
    let past : length c.self.inside.slots.items ≤ c.self.inside.ahead = search rules in
    subst (λ (s : KeysState). OnOk c.append_list.result
    (c.append_list.new.outbox ≡ c.args.outbox.now ++ reply_in s.slots)) c.self.view_is
    (finish_ends c.self.inside.slots.items c.self.inside.ahead c.args.outbox.now
    c.append_list.new.outbox c.append_list.result c.self.invariant.1 past
    (subst (λ ss. OnOk c.append_list.result (c.append_list.new.outbox ≡ c.args.outbox.now
    ++ values_and_end ss)) c.deref.ensures.value c.append_list.ensures.ok))

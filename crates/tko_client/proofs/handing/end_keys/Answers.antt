use Rattle.std.proofs.Common.{◌≡◌, rules, subst}
use Rattle.tko_keys.specs.KeysState.{reply_in}
use Rattle.tko_session.specs.Handing.{replied_by}
use Rattle.tko_client.proofs.HandingLemmas.{ended_reply, ended_short}
use Rattle.tko_client.proofs.handing.end_keys.Goals as goal

pub returns-then-is_lost : goal.returns-then-is_lost
returns-then-is_lost c =
    ended_short c.args.it.now c.requires.keys c.drop_request.new.self c.take.new.self c.requires.are
    c.drop_request.ensures c.take.ensures.after

pub returns-in-Ok : goal.returns-in-Ok
returns-in-Ok c =
    ended_reply c.args.it.now c.in-Some.keys c.take_reply.new.self c.take.new.self (search rules)
    (search rules)
    (subst (λ k. c.take_reply.new.self ≡ replied_by (reply_in k.slots) c.args.it.now.session)
    c.into_inner-keys.ensures c.in-Ok.ensures.ok) c.take.ensures.after

pub returns-in-Err : goal.returns-in-Err
returns-in-Err c =
    ended_short c.args.it.now c.requires.keys c.take_reply.new.self c.take.new.self c.requires.are
    c.in-Err.ensures.err c.take.ensures.after

use Rattle.std.proofs.Common.{◌-◌, ◌∙◌, length, take, drop, arith, rules}
use Rattle.tko_links.proofs.ConnectLemmas.{part_failed}
use Rattle.tko_links.proofs.PartLemmas.{part_as, part_kept, refusals_are}
use Rattle.tko_links.proofs.SendLemmas.{left_is_some, left_within, sent_more, wrote_none}
use Rattle.tko_reach.proofs.SendLemmas.{sends_failed, sends_stuck}
use Rattle.tko_reach.proofs.asking.send.Goals as goal

pub returns-in-Ok-eq0 : goal.returns-in-Ok-eq0
returns-in-Ok-eq0 g c =
    let sent = c.loop-at.invariant.2 in
    let called = c.in-Ok-eq0.ensures in
    let piece = take (length c.args.text.now - c.loop-at.at) (drop c.loop-at.at c.args.text.now) in
    let some = left_is_some c.args.text.now c.loop-at.at (search rules) in
    sends_stuck sent
    (part_as (wrote_none c.args.server piece c.in-Ok-eq0.field-0 (search rules))
    (part_kept called.record sent.part.connection called.kept
    (omega
    (arith, called.failures, refusals_are c.args.server piece c.in-Ok-eq0.field-0 some))
    called.servers))

pub loop-at-preserved : goal.loop-at-preserved
loop-at-preserved g c =
    let sent = c.loop-at.invariant.2 in
    let called = c.in-Ok.ensures in
    let piece = take (length c.args.text.now - c.loop-at.at) (drop c.loop-at.at c.args.text.now) in
    let some = left_is_some c.args.text.now c.loop-at.at (search rules) in (
      left_within c.args.text.now c.loop-at.at c.in-Ok.count c.loop-at.invariant.0 called.count,
      called.servers ∙ c.loop-at.invariant.1,
      sent_more c.in-Ok.count sent
          (part_kept called.record sent.part.connection called.kept
          (omega
          (arith, called.failures, refusals_are c.args.server piece c.in-Ok.count some))
          called.servers),
    )

pub returns-in-Err : goal.returns-in-Err
returns-in-Err g c =
    let sent = c.loop-at.invariant.2 in
    let called = c.in-Err.ensures in
    sends_failed c.in-Err.fault sent
    (part_failed c.in-Err.fault called.record sent.part.connection called.kept called.failures
    called.servers)

use Rattle.std.proofs.Common.{take, rules}
use Rattle.tko_links.proofs.ConnectLemmas.{part_failed}
use Rattle.tko_links.proofs.PartLemmas.{part_as, part_kept}
use Rattle.tko_reach.proofs.HearLemmas.{got_nothing, heard_more, heard_none, hears_answer, hears_end, hears_failed}
use Rattle.tko_reach.proofs.hearing.hear.Goals as goal

pub loop-init : goal.loop-init
loop-init g c = rw c.new-bytes.ensures.items (heard_none c.args.wire.now c.requires.connected)

pub returns-in-Ok-eq0 : goal.returns-in-Ok-eq0
returns-in-Ok-eq0 g c =
    let heard = c.loop.invariant in
    let called = c.in-Ok-eq0.ensures in
    hears_end heard
    (part_as (got_nothing c.args.server c.read.new.buffer c.in-Ok-eq0.field-0 (search rules))
    (part_kept called.record heard.part.connection called.kept called.failures called.servers))

pub returns-in-Some-2 : goal.returns-in-Some-2
returns-in-Some-2 g c =
    let heard = c.loop.invariant in
    let called = c.in-Ok.ensures in
    hears_answer (take c.in-Ok.count c.read.new.buffer) c.in-Some-2.reach heard
    (part_kept called.record heard.part.connection called.kept called.failures called.servers)
    (search rules)

pub loop-preserved : goal.loop-preserved
loop-preserved g c =
    let heard = c.loop.invariant in
    let called = c.in-Ok.ensures in
    rw c.in_ok-extend_from_slice-in-Ok.ensures.items
    (heard_more (take c.in-Ok.count c.read.new.buffer) heard
    (part_kept called.record heard.part.connection called.kept called.failures called.servers)
    (search rules))

pub returns-in-Err : goal.returns-in-Err
returns-in-Err g c =
    let heard = c.loop.invariant in
    let called = c.in-Err.ensures in
    rw c.cut.ensures
    (hears_failed c.in-Err.fault heard
    (part_failed c.in-Err.fault called.record heard.part.connection called.kept called.failures
    called.servers))

use Rattle.std.proofs.Common.{Err, Ok}
use Rattle.std.proofs.lemmas.Result.{IfOk-weaker}
use Rattle.tko_links.proofs.ConnectLemmas.{part_tried}
use Rattle.tko_reach.specs.Asking.{Heard, NotAsked, NotConnected}
use Rattle.tko_reach.proofs.asking.ask.Goals as goal

pub returns-in-Err : goal.returns-in-Err
returns-in-Err g c =
    let called = c.in-Err.ensures in
    NotConnected c.in-Err.fault
    (part_tried (Err c.in-Err.fault) called.record called.connected called.others called.failures
    called.servers)
    c.unconnected.ensures

pub returns-in-Err-send : goal.returns-in-Err-send
returns-in-Err-send g c =
    let called = c.in_default.ensures in
    NotAsked c.connect.new.self c.in-Err-send.fault
    (part_tried (Ok c.in_default.field-0) called.record called.connected called.others
    called.failures called.servers)
    c.in-Err-send.ensures c.cut.ensures

pub returns : goal.returns
returns g c =
    let called = c.in_default.ensures in
    let opened = part_tried (Ok c.in_default.field-0) called.record called.connected called.others
    called.failures called.servers in
    IfOk-weaker c.hear.result _ _
    (λ came heard. Heard c.connect.new.self c.send.new.wire opened c.in_default-send.ensures heard)
    c.hear.ensures

use Rattle.std.proofs.Common.{arith, sym}
use Rattle.tko_links.proofs.ConnectLemmas.{opens_anew, opens_found, opens_instead, part_tried}
use Rattle.tko_links.proofs.PartLemmas.{part_kept, part_one}
use Rattle.tko_links.proofs.exchanging.connect.Goals as goal

pub returns-then-not-is_connected : goal.returns-then-not-is_connected
returns-then-not-is_connected g c =
    let called = c.connect.ensures in
    opens_anew (sym c.if-not-is_connected.ensures)
    (part_tried c.connect.result called.record called.connected called.others called.failures
    called.servers)

pub returns-then-is_usable : goal.returns-then-is_usable
returns-then-is_usable g c =
    let was = sym c.if-not-is_connected.ensures in
    let looked = c.if-is_usable.ensures in
    opens_found was
    (part_kept looked.record was looked.kept (omega (arith, looked.failures)) looked.servers)

pub returns : goal.returns
returns g c =
    let was = sym c.if-not-is_connected.ensures in
    let looked = c.if-is_usable.ensures in
    let given_up = c.shut.ensures in
    let called = c.connect-2.ensures in
    opens_instead was
    (part_kept looked.record was looked.kept (omega (arith, looked.failures)) looked.servers)
    (part_one given_up.record given_up.connected given_up.others
    (omega (arith, given_up.failures)) given_up.servers)
    (part_tried c.connect-2.result called.record called.connected called.others called.failures
    called.servers)

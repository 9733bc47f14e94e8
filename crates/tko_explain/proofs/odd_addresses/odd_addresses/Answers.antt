use Rattle.std.proofs.Common.{◌≤◌, arith, length, map, string_bytes}
use Rattle.tko_explain.proofs.OddLemmas.{notes_done, notes_left}
use Rattle.tko_explain.proofs.odd_addresses.odd_addresses.Goals as goal

pub loop-address-preserved : goal.loop-address-preserved
loop-address-preserved c =
    notes_left string_bytes (map string_bytes c.args.addresses.now) c.args.addresses.now c.loop-address.address-index
    c.address-item.result c.loop-address.text.items c.in_ok-note.note.items c.extend_from_slice.new.self.items
    c.loop-address-test.true c.address-item.is (rw c.as_str.ensures.value at c.in_ok-note.ensures)
    (rw c.deref.ensures.value at c.in_ok-extend_from_slice.ensures.items) c.loop-address.invariant

pub returns : goal.returns
returns c =
    let ended : length c.args.addresses.now ≤ c.loop-address.address-index = omega (arith, c.loop-address-test.false) in
    notes_done string_bytes (map string_bytes c.args.addresses.now) c.args.addresses.now c.loop-address.address-index
    c.loop-address.text.items ended c.loop-address.invariant

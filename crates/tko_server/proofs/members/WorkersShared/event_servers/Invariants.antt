use Rattle.std.proofs.Common.{◌≡◌, length, map, string_bytes, take}
use Rattle.tko_server.specs.EventMembers.{AreServersAt}
use Rattle.tko_server.proofs.members.WorkersShared.event_servers.Given as goal

abbrev pub invariant-loop-address : goal.invariant-loop-address
invariant-loop-address g l =
    (length l.servers.items ≡ l.address-index)
    × AreServersAt (map string_bytes (take l.address-index l.address-items)) l.servers.items

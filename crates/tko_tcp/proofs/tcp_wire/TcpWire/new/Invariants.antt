use Rattle.std.proofs.Common.{◌≡◌, None, false, map, replicate, string_bytes, take}
use Rattle.tko_tcp.specs.TcpWires.{address_of, is_open, time_limit_of}
use Rattle.tko_tcp.proofs.tcp_wire.TcpWire.new.Given as goal

abbrev pub invariant-loop-address : goal.invariant-loop-address
invariant-loop-address l =
    (map is_open l.servers.items ≡ replicate l.address-index false)
    × (map time_limit_of l.servers.items ≡ replicate l.address-index None)
    × (map address_of l.servers.items ≡ map string_bytes (take l.address-index l.addresses))

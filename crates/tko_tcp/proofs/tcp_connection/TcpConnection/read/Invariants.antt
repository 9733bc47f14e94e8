use Rattle.std.proofs.Common.{◌≡◌}
use Rattle.tko_tcp.proofs.tcp_connection.TcpConnection.read.Given as goal

abbrev pub invariant-loop : goal.invariant-loop
invariant-loop g l = l.self.time.limit ≡ l.initial.self.time.limit

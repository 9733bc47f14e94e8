use Rattle.tko_tcp.proofs.TcpLemmas.{tcp_record}
use Rattle.tko_tcp.proofs.laws.tcp_counts.Goals as goal

pub returns : goal.returns
returns c = tcp_record

use Rattle.std.proofs.Common.{ap, false, get_or}
use Rattle.tko_tcp.specs.TcpWires.{TcpState, address_of, is_open}
use Rattle.tko_tcp.proofs.TcpLemmas.{keep_seen, read_step, rose}
use Rattle.tko_tcp.proofs.tcp_wire.TcpWireWire.read.Goals as goal

pub returns-clause-record : goal.returns-clause-record
returns-clause-record g c =
    rw c.counted.ensures.same (read_step _ _ c.args.server c.read-read.new.buffer _
    (record {
      addresses =
          keep_seen address_of _ _ c.args.server _ _
          (ap (λ (s : TcpState). s.addresses) c.self.view_is)
          c.index_mut.ensures.value c.read-read.ensures.address;
      whole = ap (λ (s : TcpState). s.whole) c.self.view_is;
      limit = ap (λ (s : TcpState). s.limit) c.self.view_is;
    })
    (keep_seen is_open _ _ c.args.server _ _ (ap (λ (s : TcpState). s.connected) c.self.view_is)
    c.index_mut.ensures.value c.read-read.ensures.kept)
    (rose _ _ _ _ c.counted.ensures.failures (ap (λ (s : TcpState). s.failures) c.self.view_is)))

pub returns-clause-kept : goal.returns-clause-kept
returns-clause-kept g c other =
    ap (λ connected. get_or connected other false)
    (keep_seen is_open _ _ c.args.server _ _ (ap (λ (s : TcpState). s.connected) c.self.view_is)
    c.index_mut.ensures.value c.read-read.ensures.kept)

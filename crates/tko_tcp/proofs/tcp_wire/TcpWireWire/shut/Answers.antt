use Rattle.std.proofs.Common.{ap, arith}
use Rattle.tko_tcp.specs.TcpWires.{TcpState, address_of, is_open}
use Rattle.tko_tcp.proofs.TcpLemmas.{at_set, beside_set, keep_seen, set_seen}
use Rattle.tko_tcp.proofs.tcp_wire.TcpWireWire.shut.Goals as goal

pub returns-clause-record : goal.returns-clause-record
returns-clause-record c =
    let set = set_seen is_open _ _ c.args.server _ _
    (ap (λ (s : TcpState). s.connected) c.self.view_is)
    c.shut.ensures.closed in
    let failures = ap (λ (s : TcpState). s.failures) c.self.view_is in
    record {
      addresses =
          keep_seen address_of _ _ c.args.server _ _
          (ap (λ (s : TcpState). s.addresses) c.self.view_is)
          c.index_mut.ensures.value c.shut.ensures.address;
      whole = ap (λ (s : TcpState). s.whole) c.self.view_is;
      timed = ap (λ (s : TcpState). s.limit) c.self.view_is;
      connected = set;
      least = omega arith;
      most = omega arith;
    }

pub returns-clause-connected : goal.returns-clause-connected
returns-clause-connected c =
    at_set _ _ _ _
    (set_seen is_open _ _ c.args.server _ _
    (ap (λ (s : TcpState). s.connected) c.self.view_is) c.shut.ensures.closed)
    c.requires

pub returns-clause-others : goal.returns-clause-others
returns-clause-others c other apart =
    beside_set _ _ _ _ _
    (set_seen is_open _ _ c.args.server _ _ (ap (λ (s : TcpState). s.connected) c.self.view_is)
    c.shut.ensures.closed) apart

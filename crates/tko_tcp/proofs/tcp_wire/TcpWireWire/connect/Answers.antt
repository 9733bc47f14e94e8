use Rattle.std.proofs.Common.{ap, ◌∙◌, sym}
use Rattle.tko_tcp.specs.TcpWires.{TcpState, address_of, is_open}
use Rattle.tko_links.specs.Wires.{is_ok}
use Rattle.tko_tcp.proofs.TcpLemmas.{at_set, beside_set, connect_step, keep_seen, limit_made}
use Rattle.tko_tcp.proofs.TcpLemmas.{rose, set_seen}
use Rattle.tko_tcp.proofs.tcp_wire.TcpWireWire.connect.Goals as goal

pub returns-clause-record : goal.returns-clause-record
returns-clause-record g c =
    let was = ap (λ (s : TcpState). s.connected) c.self.view_is in
    rw c.counted.ensures.same (connect_step _ _ c.args.server _
    (record {
      addresses =
          keep_seen address_of _ _ c.args.server _ _
          (ap (λ (s : TcpState). s.addresses) c.self.view_is)
          c.index_mut.ensures.value c.connect-connected.ensures.address;
      whole = ap (λ (s : TcpState). s.whole) c.self.view_is;
      limit = ap (λ (s : TcpState). s.limit) c.self.view_is;
    })
    (limit_made _ _ c.args.server _ _ _ _ was c.requires.may.within c.connect-connected.ensures.limited
    (ap (λ (s : TcpState). s.limit) c.self.view_is))
    (set_seen is_open _ _ c.args.server _ _ was c.connect-connected.ensures.connected)
    (rose _ _ _ _ c.counted.ensures.failures (ap (λ (s : TcpState). s.failures) c.self.view_is)))

pub returns-clause-connected : goal.returns-clause-connected
returns-clause-connected g c =
    at_set _ _ _ _
    (set_seen is_open _ _ c.args.server _ _ (ap (λ (s : TcpState). s.connected) c.self.view_is)
    c.connect-connected.ensures.connected) c.requires.may.within
    ∙ ap is_ok (sym c.counted.ensures.same)

pub returns-clause-others : goal.returns-clause-others
returns-clause-others g c other apart =
    beside_set _ _ _ _ _
    (set_seen is_open _ _ c.args.server _ _ (ap (λ (s : TcpState). s.connected) c.self.view_is)
    c.connect-connected.ensures.connected) apart

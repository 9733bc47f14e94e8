use Rattle.std.proofs.Common.{ap, arith, false, get_or, Some, ◌∙◌}
use Rattle.tko_tcp.specs.TcpWires.{TcpState, address_of, is_open}
use Rattle.tko_tcp.proofs.TcpLemmas.{keep_seen, limit_there, open_there}
use Rattle.tko_tcp.proofs.tcp_wire.TcpWireWire.is_usable.Goals as goal

pub returns-clause-record : goal.returns-clause-record
returns-clause-record g c =
    let was = ap (λ (s : TcpState). s.connected) c.self.view_is in
    let same = keep_seen is_open _ _ c.args.server _ _ was c.index_mut.ensures.value
    c.begin.ensures.kept in
    let failures = ap (λ (s : TcpState). s.failures) c.self.view_is in
    let limit = ap (λ (s : TcpState). s.limit) c.self.view_is in
    let there = open_there _ _ c.args.server _ was c.requires.within c.index_mut.ensures.value
    c.requires.connected in
    record {
      addresses =
          keep_seen address_of _ _ c.args.server _ _
          (ap (λ (s : TcpState). s.addresses) c.self.view_is)
          c.index_mut.ensures.value c.begin.ensures.address;
      whole = ap (λ (s : TcpState). s.whole) c.self.view_is;
      timed = (
        limit,
        limit_there _ _ c.args.server _ _ was c.requires.within
            (c.begin.ensures.limited there ∙ ap Some limit),
      );
      connected = same;
      least = omega arith;
      most = omega arith;
    }

pub returns-clause-kept : goal.returns-clause-kept
returns-clause-kept g c other =
    ap (λ connected. get_or connected other false)
    (keep_seen is_open _ _ c.args.server _ _ (ap (λ (s : TcpState). s.connected) c.self.view_is)
    c.index_mut.ensures.value c.begin.ensures.kept)

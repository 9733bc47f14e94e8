-- Connections over TCP: what a call on one server changes.
use Rattle.std.proofs.Common.{◌≡◌, ◌≢◌, ℕ, zero, suc, ◌+◌, ◌<◌, Bool, true, false, List, [], ◌∷◌}
use Rattle.std.proofs.Common.{length, map, get_or, slice_set, Option, Some, None, Result, Ok, Err}
use Rattle.std.proofs.Common.{OnOk, refl, ap, sym, ◌∙◌, arith, rules, tests}
use Rattle.std.proofs.Common.{get_or-set_same, get_or-set_other}
use Rattle.std.proofs.lemmas.List.{get_or-map, length-map, map-set}
use Rattle.std.proofs.lemmas.List.Sums.{sum_by-cons}
use Rattle.std.proofs.Math.Seq.{map-set_same}
use Rattle.tko_model.specs.Records.{Gains, Lead}
use Rattle.tko_tcp.specs.declared.tcp_server.TcpServer.{TcpServer}
use Rattle.tko_links.specs.declared.wire.WireFault.{WireFault}
use Rattle.tko_tcp.specs.TcpWires.{IsTcpRecord, IsTcpStep, TcpState}
use Rattle.tko_tcp.specs.TcpWires.{connected_after_all, is_open, least_failures}
use Rattle.tko_tcp.specs.TcpWires.{most_failures, time_limit_of}
use Rattle.tko_links.specs.Wires.{WireItem, connect_item, is_ok, read_item, wire_faults_in}
use Rattle.tko_links.specs.Wires.{wire_refusals_in, write_item}

-- what is seen of each server, after a call that changed one of them
pub set_seen : {A : Type 0} (f : TcpServer → A) (servers : List TcpServer) (seen : List A)
    (place : ℕ)
    (server : TcpServer) (now : A) → map f servers ≡ seen → f server ≡ now
    → map f (slice_set servers place server) ≡ slice_set seen place now
set_seen f servers seen place server now was is = map-set f servers place server ∙ rw (was, is) refl

-- the same after a call that leaves it
pub keep_seen : {A : Type 0} (f : TcpServer → A) (servers : List TcpServer) (seen : List A)
    (place : ℕ)
    (before after : TcpServer) → map f servers ≡ seen
    → before ≡ get_or servers place before → f after ≡ f before
    → map f (slice_set servers place after) ≡ seen
keep_seen f servers seen place before after was at same =
    map-set_same f servers place after before (same ∙ ap f at) ∙ was

-- the time limit of the exchange that a call began at one of them
pub limit_there : (servers : List TcpServer) (connected : List Bool) (place : ℕ)
    (server : TcpServer)
    (limit : Option ℕ) → map is_open servers ≡ connected → place < length connected
    → time_limit_of server ≡ limit
    → get_or (map time_limit_of (slice_set servers place server)) place None ≡ limit
limit_there servers connected place server limit was within is =
    let same : length connected ≡ length (map is_open servers) = ap length (sym was) in
    ap (λ them. get_or them place None) (map-set time_limit_of servers place server)
    ∙ get_or-set_same (map time_limit_of servers) place (time_limit_of server) None
    (omega (arith, within, same, length-map servers is_open, length-map servers time_limit_of))
    ∙ is

-- the same where a connection was made
pub limit_made : (servers : List TcpServer) (connected : List Bool) (place : ℕ) (server : TcpServer)
    (limit now : ℕ) (result : Result Unit WireFault) → map is_open servers ≡ connected
    → place < length connected
    → OnOk result (time_limit_of server ≡ Some limit) → limit ≡ now
    → OnOk result (get_or (map time_limit_of (slice_set servers place server)) place None ≡ Some now)
limit_made servers connected place server limit now (Ok done) was within is same =
    limit_there servers connected place server (Some now) was within (is ∙ ap Some same)
limit_made servers connected place server limit now (Err fault) was within is same = tt

-- a server is connected where it is seen so
pub open_there : (servers : List TcpServer) (connected : List Bool) (place : ℕ) (before : TcpServer)
    → map is_open servers ≡ connected → place < length connected
    → before ≡ get_or servers place before
    → get_or connected place false ≡ true → is_open before ≡ true
open_there servers connected place before was within at seen =
    let same : length connected ≡ length (map is_open servers) = ap length (sym was) in
    ap is_open at
    ∙ sym (get_or-map is_open servers place before false
    (omega (arith, within, same, length-map servers is_open)))
    ∙ ap (λ them. get_or them place false) was
    ∙ seen

-- the connections after one of them was set: at its server, and at others
pub at_set : (connected now : List Bool) (place : ℕ) (is : Bool)
    → now ≡ slice_set connected place is → place < length connected → get_or now place false ≡ is
at_set connected now place is set within =
    ap (λ them. get_or them place false) set ∙ get_or-set_same connected place is false within

pub beside_set : (connected now : List Bool) (place other : ℕ) (is : Bool)
    → now ≡ slice_set connected place is → other ≢ place
    → get_or now other false ≡ get_or connected other false
beside_set connected now place other is set apart =
    ap (λ them. get_or them other false) set ∙ get_or-set_other connected place other is false apart

pub rose : (before same after n : ℕ) → after ≡ before + n → before ≡ same → after ≡ same + n
rose before same after n rise is = rise ∙ ap (λ count. count + n) is

-- a call that leaves whose the connections are, and the time limits
pub record Stays (old new : TcpState) : Type 0 where
  pub addresses : new.addresses ≡ old.addresses
  pub whole : new.whole ≡ old.whole
  pub limit : new.limit ≡ old.limit

pub connect_step : (old new : TcpState) (server : ℕ) (result : Result Unit WireFault)
    → Stays old new → OnOk result (get_or new.limits server None ≡ Some old.limit)
    → new.connected ≡ slice_set old.connected server (is_ok result)
    → new.failures ≡ old.failures + wire_faults_in result
    → IsTcpStep old (connect_item server result) new
connect_step old new server (Ok done) stays begun connected failures =
    record {
      addresses = stays.addresses;
      whole = stays.whole;
      timed = (stays.limit, begun);
      connected = connected;
      least = omega arith;
      most = omega arith;
    }
connect_step old new server (Err fault) stays begun connected failures =
    record {
      addresses = stays.addresses;
      whole = stays.whole;
      timed = stays.limit;
      connected = connected;
      least = omega arith;
      most = omega arith;
    }

pub read_step : (old new : TcpState) (server : ℕ) (buffer : List ℕ) (result : Result ℕ WireFault)
    → Stays old new
    → new.connected ≡ old.connected → new.failures ≡ old.failures + wire_faults_in result
    → IsTcpStep old (read_item server buffer result) new
read_step old new server buffer (Ok count) stays connected failures =
    record {
      addresses = stays.addresses;
      whole = stays.whole;
      timed = stays.limit;
      connected = connected;
      least = omega arith;
      most = omega arith;
    }
read_step old new server buffer (Err fault) stays connected failures =
    record {
      addresses = stays.addresses;
      whole = stays.whole;
      timed = stays.limit;
      connected = connected;
      least = omega arith;
      most = omega arith;
    }

pub write_step : (old new : TcpState) (server : ℕ) (piece : List ℕ) (result : Result ℕ WireFault)
    → Stays old new
    → new.connected ≡ old.connected → new.failures ≡ old.failures + wire_refusals_in piece result
    → IsTcpStep old (write_item server piece result) new
write_step old new server [] (Ok zero) stays connected failures =
    record {
      addresses = stays.addresses;
      whole = stays.whole;
      timed = stays.limit;
      connected = connected;
      least = omega arith;
      most = omega arith;
    }
write_step old new server [] (Ok (suc n)) stays connected failures =
    record {
      addresses = stays.addresses;
      whole = stays.whole;
      timed = stays.limit;
      connected = connected;
      least = omega arith;
      most = omega arith;
    }
write_step old new server (byte ∷ bytes) (Ok zero) stays connected failures =
    let one : new.failures ≡ old.failures + 1 = failures
    ∙ ap (λ n. old.failures + n) (search (rules, tests)) in
    record {
      addresses = stays.addresses;
      whole = stays.whole;
      timed = stays.limit;
      connected = connected;
      least = omega arith;
      most = omega arith;
    }
write_step old new server (byte ∷ bytes) (Ok (suc n)) stays connected failures =
    let none : new.failures ≡ old.failures + 0 = failures
    ∙ ap (λ n. old.failures + n) (search (rules, tests)) in
    record {
      addresses = stays.addresses;
      whole = stays.whole;
      timed = stays.limit;
      connected = connected;
      least = omega arith;
      most = omega arith;
    }
write_step old new server piece (Err fault) stays connected failures =
    record {
      addresses = stays.addresses;
      whole = stays.whole;
      timed = stays.limit;
      connected = connected;
      least = omega arith;
      most = omega arith;
    }

records : (old new : TcpState) (items : List WireItem) → Lead IsTcpStep old items new
    → IsTcpRecord old items new
records old new [] same =
    let failures = ap (λ (s : TcpState). s.failures) same in
    record {
      addresses = ap (λ (s : TcpState). s.addresses) same;
      whole = ap (λ (s : TcpState). s.whole) same;
      connected = ap (λ (s : TcpState). s.connected) same;
      least = omega arith;
      most = omega arith;
    }
records old new (it ∷ items) (mid, step, rest) =
    let after = records mid new items rest in
    let first_least = step.least in
    let first_most = step.most in
    let rest_least = after.least in
    let rest_most = after.most in
    record {
      addresses = after.addresses ∙ step.addresses;
      whole = after.whole ∙ step.whole;
      connected =
          after.connected
          ∙ ap (λ (them : List Bool). connected_after_all them items) step.connected;
      least = omega (arith, sum_by-cons least_failures it items);
      most = omega (arith, sum_by-cons most_failures it items);
    }

-- a record of connections over TCP counts their failures
pub tcp_record : (old new : TcpState) (items : List WireItem) → Gains IsTcpStep old items new
    → IsTcpRecord old items new
tcp_record old new items gains = records old new items gains.leads

-- The servers of a list of addresses, each asked once.
use Rattle.std.specs.Prelude.{◌≡◌, ℕ, ◌*◌, false, List, [], ◌∷◌, length, None, Some, get_or, slice_get, string_bytes}
use Rattle.tko_tcp.specs.ProbeTimes.{nanos_in_milli}
use Rattle.tko_tcp.specs.TcpWires.{IsTcpStep, TcpState}
use Rattle.tko_reach.specs.declared.reach.Reach.{Reach}
use Rattle.tko_reach.specs.declared.reach.Reached.{Reached}
use Rattle.tko_reach.specs.Asking.{IsServerAsked}

-- the connections to the server with this address, of which there is none yet
abbrev pub unasked : ℕ → List ℕ → TcpState
unasked limit address = record {
  addresses = address ∷ [];
  connected = false ∷ [];
  limits = None ∷ [];
  failures = 0;
  limit = limit * nanos_in_milli;
  whole = limit * nanos_in_milli;
}

-- the server with this address was asked over TCP, within a time limit in milliseconds, and this
-- came
pub record IsReachOf (limit : ℕ) (address : List ℕ) (came : Reach) : Type 0 where
  pub after : TcpState
  pub asked : IsServerAsked (λ (wire : TcpState). length wire.connected)
      (λ (wire : TcpState) (server : ℕ). get_or wire.connected server false)
      (λ (wire : TcpState). wire.failures) IsTcpStep 0 (unasked limit address) came after

-- the server with this number of the list was asked
pub record IsReachedAt (limit : ℕ) (addresses : List (List ℕ)) (number : ℕ) (server : Reached)
    : Type 0 where
  pub numbered : server.number ≡ number
  pub named : slice_get addresses number ≡ Some (string_bytes server.address)
  pub came : IsReachOf limit (string_bytes server.address) server.reach

-- each server of the list was asked, in their order
pub record AreReached (limit : ℕ) (addresses : List (List ℕ)) (servers : List Reached) : Type 0
  where
    pub count : length servers ≡ length addresses
    pub each : (number : ℕ) (server : Reached) → slice_get servers number ≡ Some server
        → IsReachedAt limit addresses number server

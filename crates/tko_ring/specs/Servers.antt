-- The servers of a pool, as the points of a ring depend on them.
use Rattle.std.specs.Prelude.{ℕ, ◌<◌, ◌≤◌, ◌^◌, List, All, length, sum_by}

pub record NamedServer : Type 0 where
  pub name : List ℕ
  pub weight : ℕ

abbrev pub total_weight : List NamedServer → ℕ
total_weight servers = sum_by (λ server. server.weight) servers

-- one server or more, each of some weight, and together of not too much
pub record AreWeighed (servers : List NamedServer) : Type 0 where
  pub some : 0 < length servers
  pub each : All (λ server. 0 < server.weight) servers
  pub total : total_weight servers ≤ 2 ^ 24

-- The health of the pools of a route: whether each has a server in use.
use Rattle.std.specs.Prelude.{◌≡◌, ℕ, Bool, false, not, List, [], ◌++◌, Option, Some, None, codes, decimal, flat_map, length, map, slice_get, string_bytes}
use Rattle.std.specs.List.{filter, list_all, list_any}
use Rattle.tko_metrics.specs.declared.health.HealthReport.{HealthReport}
use Rattle.tko_metrics.specs.declared.health.ShownPool.{ShownPool}
use Rattle.tko_metrics.specs.declared.reading.Shown.{Shown}
use Rattle.tko_metrics.specs.declared.marking.Marking.{Marking}
use Rattle.tko_metrics.specs.declared.marking.Marking.TheVariants.{Up, Soft, Hard}
use Rattle.tko_metrics.specs.Marks.{is_mark}
use Rattle.tko_metrics.specs.Samples.{seconds_text}

-- whether there is such a server, and it is in use: no worker has a mark on it
abbrev pub is_used : Option Shown → Bool
is_used None = false
is_used (Some server) = not (is_mark server.reading.mark)

-- whether the server of this number is in use
abbrev pub in_use : List Shown → ℕ → Bool
in_use servers number = is_used (slice_get servers number)

-- whether a pool has a server in use
abbrev pub is_pool_healthy : List Shown → ShownPool → Bool
is_pool_healthy servers pool = list_any (in_use servers) pool.servers.items

-- whether each pool has a server in use
abbrev pub are_healthy : List Shown → List ShownPool → Bool
are_healthy servers pools = list_all (is_pool_healthy servers) pools

-- how many of all servers of the pool of this name are in use
unfoldable pub use_line : List ℕ → ℕ → ℕ → List ℕ
use_line name used all =
    (codes "pool " ++ name ++ codes ": ") ++ decimal used ++ codes " of " ++ decimal all
    ++ codes " servers in use\n"

-- which mark the server of this address has, and since when
unfoldable pub unused_line : List ℕ → List ℕ → ℕ → List ℕ
unused_line address mark since =
    (codes "  " ++ address ++ codes " " ++ mark ++ codes " since ") ++ seconds_text since
    ++ codes "\n"

-- the line of the server of this address, if it has a mark
abbrev pub line_with : List ℕ → Marking → ℕ → List ℕ
line_with address Up since = []
line_with address Soft since = unused_line address (codes "soft") since
line_with address Hard since = unused_line address (codes "hard") since

abbrev pub marked_line : Shown → List ℕ
marked_line server = line_with server.address.now server.reading.mark server.reading.since

abbrev pub known_line : Option Shown → List ℕ
known_line None = []
known_line (Some server) = marked_line server

-- the line of the server of this number, if it is not in use
abbrev pub member_line : List Shown → ℕ → List ℕ
member_line servers number = known_line (slice_get servers number)

-- how many servers of a pool are in use, and a line for each of the others
unfoldable pub pool_lines : List Shown → ShownPool → List ℕ
pool_lines servers pool =
    use_line (string_bytes pool.name) (length (filter (in_use servers) pool.servers.items))
    (length pool.servers.items)
    ++ flat_map (member_line servers) pool.servers.items

-- the lines of the pools, in order
abbrev pub health_text : List Shown → List ShownPool → List ℕ
health_text servers pools = flat_map (pool_lines servers) pools

-- a report says how these pools are over these servers
pub record IsReportOf (servers : List Shown) (pools : List ShownPool) (report : HealthReport)
    : Type 0 where
  pub healthy : report.is_healthy ≡ are_healthy servers pools
  pub text : report.text.items ≡ health_text servers pools

-- a report says how these pools are over servers of these addresses, as the workers had marked them
pub record IsHealth (addresses : List (List ℕ)) (pools : List ShownPool) (report : HealthReport)
    : Type 0 where
  pub servers : List Shown
  pub addressed : map (λ server. server.address.now) servers ≡ addresses
  pub is_report : IsReportOf servers pools report

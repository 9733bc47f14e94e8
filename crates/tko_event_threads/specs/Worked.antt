-- What an event-driven worker is started with, and what it did.
use Rattle.std.specs.Prelude.{◌≡◌, ℕ, Bool, length}
use Rattle.tko_model.specs.Records.{HealthItem}
use Rattle.tko_desk.specs.declared.book.Share.{Share}
use Rattle.tko_threads.specs.declared.report.WorkerReport.{WorkerReport}
use Rattle.tko_event_threads.specs.declared.working.EventParts.{EventParts}
use Rattle.tko_event_threads.specs.declared.working.WorkerMeans.{WorkerMeans}
use Rattle.tko_event_threads.specs.declared.working.Ways.{Ways}
use Rattle.tko_event_threads.specs.Accounting.{AccountState, HasCounted, IsAccountSettled}
use Rattle.tko_event_threads.specs.Origins.{IsReached}

-- the seating, the probers and the addresses have the servers of the configuration
pub record IsEventEquipped {S K : Type 0} (seated : S → ℕ) (parts : EventParts S K) : Type 0 where
  pub seating : seated parts.seating.now ≡ length parts.config.addresses
  pub probers : length parts.probers.slots ≡ length parts.config.addresses
  pub servers : length parts.servers.items ≡ length parts.config.addresses

-- these are the parts of a worker beside those of its loop
pub record IsMeansOf {S K : Type 0} (parts : EventParts S K) (means : WorkerMeans S) : Type 0 where
  pub seating : means.seating.now ≡ parts.seating.now
  pub config : means.config ≡ parts.config
  pub probers : means.probers ≡ parts.probers
  pub account : means.account ≡ parts.account
  pub log : means.log ≡ parts.log

-- these are the parts of its loop
pub record IsWaysOf {S K : Type 0} (parts : EventParts S K) (ways : Ways K) : Type 0 where
  pub servers : ways.servers ≡ parts.servers
  pub limits : ways.limits ≡ parts.limits
  pub keys : ways.keys ≡ parts.keys
  pub way_in : ways.way_in ≡ parts.way_in
  pub first_ask : ways.first_ask ≡ parts.first_ask

-- a worker took a seat, with which its health began; made its own calls of that, and no others; and
-- left, with the seat that it returned. All that its observer recorded was counted, and its account
-- was given that, in parts, the last of them at the end: the share had no other changes, from the
-- one that it began with. The report that it returned is that of the clients that ended
pub record HasEventWorked {H P : Type 0} (steps : H → HealthItem → H → Type 0)
    (seated : H → Type 0) (leaves : H → P → Type 0) (opened : Share → Type 0)
    (returned : P × WorkerReport) : Type 0 where
  pub health : H
  pub reached : IsReached steps seated health
  pub left : leaves health returned.0
  pub before : AccountState
  pub counted : HasCounted opened before
  pub sent : ℕ
  pub full : Bool
  pub end : AccountState
  pub settled : IsAccountSettled sent before full end
  pub report : returned.1 ≡ end.report

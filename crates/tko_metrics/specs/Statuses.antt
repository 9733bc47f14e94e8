-- What is shown of a server to people.
use Rattle.std.specs.Prelude.{◌≡◌, ℕ, List, All, map, option_map}
use Rattle.tko_metrics.specs.declared.status.Status.{Status}
use Rattle.tko_metrics.specs.Loads.{AreWorkersIf}
use Rattle.tko_metrics.specs.Readings.{IsOfWorkers}

-- servers of these addresses, in order, each as so many workers counted it together; and each of
-- the workers, if they are event-driven
pub record IsStatusOf (addresses : List (List ℕ)) (count : ℕ) (status : Status) : Type 0 where
  pub servers : map (λ server. server.address.now) status.servers.items ≡ addresses
  pub timed : map (λ server. server.address.now) status.timed.items ≡ addresses
  pub readings : All (λ server. IsOfWorkers count server.reading) status.servers.items
  pub workers : AreWorkersIf count (option_map (λ workers. workers.items) status.workers)

-- The loads of event-driven workers, as a page shows them.
use Rattle.std.specs.Prelude.{◌≡◌, ℕ, List, [], ◌++◌, Option, Some, None, IfSome, flat_map, map}
use Rattle.std.specs.List.{range_with_len}
use Rattle.tko_metrics.specs.declared.load.WorkerLoad.{WorkerLoad}
use Rattle.tko_metrics.specs.declared.metrics.Metric.{Metric}
use Rattle.tko_metrics.specs.declared.metrics.Metric.TheVariants as metric
use Rattle.tko_metrics.specs.declared.workers.LoadGauge.{LoadGauge}
use Rattle.tko_metrics.specs.declared.workers.LoadGauge.TheVariants.{Clients, Connections, Waiting}
use Rattle.tko_metrics.specs.declared.workers.WorkerReading.{WorkerReading}
use Rattle.tko_metrics.specs.Samples.{head_of, worker_sample}

abbrev pub metric_of : LoadGauge → Metric
metric_of Clients = metric.WorkerClients
metric_of Connections = metric.WorkerConnections
metric_of Waiting = metric.WorkerWaiting

-- the number of a load that a gauge shows
abbrev pub gauge_of : LoadGauge → WorkerLoad → ℕ
gauge_of Clients load = load.clients
gauge_of Connections load = load.connections
gauge_of Waiting load = load.waiting

-- a gauge of one worker
abbrev pub gauge_sample : LoadGauge → WorkerReading → List ℕ
gauge_sample gauge it = worker_sample (metric_of gauge) it.worker (gauge_of gauge it.load)

unfoldable pub gauge_text : LoadGauge → List WorkerReading → List ℕ
gauge_text gauge workers = head_of (metric_of gauge) ++ flat_map (gauge_sample gauge) workers

unfoldable pub loads_text : List WorkerReading → List ℕ
loads_text workers =
    gauge_text Clients workers ++ gauge_text Connections workers ++ gauge_text Waiting workers

-- workers that are not event-driven have no load
abbrev pub known_loads : Option (List WorkerReading) → List ℕ
known_loads (Some workers) = loads_text workers
known_loads None = []

-- each of so many workers, in the order of their numbers
abbrev pub AreWorkers : ℕ → List WorkerReading → Type 0
AreWorkers count workers = map (λ it. it.worker) workers ≡ range_with_len 0 count

-- the same, where the workers are event-driven
abbrev pub AreWorkersIf : ℕ → Option (List WorkerReading) → Type 0
AreWorkersIf count workers = IfSome workers (AreWorkers count)

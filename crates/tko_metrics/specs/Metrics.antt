-- The metrics: their names, what they tell, and what kind of number each is.
use Rattle.std.specs.Prelude.{ℕ, List, codes}
use Rattle.tko_metrics.specs.declared.metrics.MetricKind.{MetricKind}
use Rattle.tko_metrics.specs.declared.metrics.MetricKind.TheVariants.{Counter, Gauge, Histogram}
use Rattle.tko_metrics.specs.declared.metrics.Metric.{Metric}
use Rattle.tko_metrics.specs.declared.metrics.Metric.TheVariants as metric
use Rattle.tko_metrics.specs.declared.worker_meter.Ending.{Ending}
use Rattle.tko_metrics.specs.declared.worker_meter.Ending.TheVariants as ending

abbrev pub metric_kind_word : MetricKind → List ℕ
metric_kind_word Counter = codes "counter"
metric_kind_word Gauge = codes "gauge"
metric_kind_word Histogram = codes "histogram"

-- the word of a kind of fault, by which a session ended
abbrev pub ending_word : Ending → List ℕ
ending_word ending.Done = codes "none"
ending_word ending.Read = codes "read"
ending_word ending.Write = codes "write"
ending_word ending.LineTooLong = codes "line_too_long"
ending_word ending.Memory = codes "memory"

abbrev pub name_of : Metric → List ℕ
name_of metric.Connected = codes "tkoproxy_clients_connected"
name_of metric.Accepted = codes "tkoproxy_clients_total"
name_of metric.Dropped = codes "tkoproxy_clients_dropped_total"
name_of metric.Sessions = codes "tkoproxy_sessions_total"
name_of metric.Faults = codes "tkoproxy_session_faults_total"
name_of metric.Requests = codes "tkoproxy_requests_total"
name_of metric.Attempts = codes "tkoproxy_attempts_total"
name_of metric.Skips = codes "tkoproxy_skips_total"
name_of metric.Replies = codes "tkoproxy_replies_total"
name_of metric.NoServer = codes "tkoproxy_no_server_total"
name_of metric.Refused = codes "tkoproxy_refused_total"
name_of metric.Commands = codes "tkoproxy_commands_total"
name_of metric.Hits = codes "tkoproxy_get_hits_total"
name_of metric.Misses = codes "tkoproxy_get_misses_total"
name_of metric.RequestTimes = codes "tkoproxy_request_seconds"
name_of metric.Probes = codes "tkoproxy_probes_total"
name_of metric.ServerSends = codes "tkoproxy_server_sends_total"
name_of metric.ServerProbes = codes "tkoproxy_server_probes_total"
name_of metric.ServerOutcomes = codes "tkoproxy_server_outcomes_total"
name_of metric.InFlight = codes "tkoproxy_server_in_flight"
name_of metric.ResponseTimes = codes "tkoproxy_server_response_seconds"
name_of metric.ServerMarked = codes "tkoproxy_server_marked"
name_of metric.MarkedSince = codes "tkoproxy_server_marked_timestamp_seconds"
name_of metric.WorkerClients = codes "tkoproxy_worker_clients"
name_of metric.WorkerConnections = codes "tkoproxy_worker_connections"
name_of metric.WorkerWaiting = codes "tkoproxy_worker_waiting_bytes"
name_of metric.Build = codes "tkoproxy_build_info"
name_of metric.Descriptors = codes "process_open_fds"
name_of metric.DescriptorLimit = codes "process_max_fds"
name_of metric.Memory = codes "process_resident_memory_bytes"

abbrev pub help_of : Metric → List ℕ
help_of metric.Connected = codes "Clients that are connected, served or waiting for a worker."
help_of metric.Accepted = codes "Clients that were accepted and set up."
help_of metric.Dropped =
    codes "Connections that were closed as they were accepted: no memory, or a socket's fault."
help_of metric.Sessions = codes "Sessions of clients that have ended."
help_of metric.Faults = codes "Sessions that ended by a fault."
help_of metric.Requests = codes "Requests that were read."
help_of metric.Attempts = codes "Requests that were sent to a server, key by key."
help_of metric.Skips = codes "Targets that were passed over, since they were marked."
help_of metric.Replies = codes "Attempts that a server answered."
help_of metric.NoServer = codes "Routed requests that no server answered."
help_of metric.Refused =
    codes "Lines that were refused, and clients of the binary protocol."
help_of metric.Commands = codes "Requests that were read, by their command."
help_of metric.Hits = codes "Keys of get and gets for which a server had a value."
help_of metric.Misses =
    codes "Keys of get and gets for which the server that answered had none."
help_of metric.RequestTimes =
    codes "How long requests took, from the moment at which each was read."
help_of metric.Probes = codes "Probes of marked servers."
help_of metric.ServerSends = codes "Requests that were sent to the server."
help_of metric.ServerProbes = codes "Probes of the server."
help_of metric.ServerOutcomes =
    codes "What came of the requests that were sent to the server."
help_of metric.InFlight =
    codes "Requests that wait for a response of the server, or to be sent to it."
help_of metric.ResponseTimes =
    codes "How long the server took to answer, of all that it answered."
help_of metric.ServerMarked =
    codes "1 where the server has this mark, and is out of use, and else 0."
help_of metric.MarkedSince = codes "When a server that is marked was marked."
help_of metric.WorkerClients = codes "Clients that this event-driven worker serves."
help_of metric.WorkerConnections =
    codes "Connections of this event-driven worker to servers, made or being made."
help_of metric.WorkerWaiting = codes
    "Bytes of replies that this event-driven worker holds for its clients, whole or under way."
help_of metric.Build =
    codes "1, with the version of the program and the SHA-256 of its sources as labels."
help_of metric.Descriptors = codes "Open file descriptors."
help_of metric.DescriptorLimit =
    codes "How many file descriptors the process could have open at its start."
help_of metric.Memory = codes "Resident memory in bytes."

abbrev pub metric_kind : Metric → MetricKind
metric_kind metric.Connected = Gauge
metric_kind metric.Accepted = Counter
metric_kind metric.Dropped = Counter
metric_kind metric.Sessions = Counter
metric_kind metric.Faults = Counter
metric_kind metric.Requests = Counter
metric_kind metric.Attempts = Counter
metric_kind metric.Skips = Counter
metric_kind metric.Replies = Counter
metric_kind metric.NoServer = Counter
metric_kind metric.Refused = Counter
metric_kind metric.Commands = Counter
metric_kind metric.Hits = Counter
metric_kind metric.Misses = Counter
metric_kind metric.RequestTimes = Histogram
metric_kind metric.Probes = Counter
metric_kind metric.ServerSends = Counter
metric_kind metric.ServerProbes = Counter
metric_kind metric.ServerOutcomes = Counter
metric_kind metric.InFlight = Gauge
metric_kind metric.ResponseTimes = Histogram
metric_kind metric.ServerMarked = Gauge
metric_kind metric.MarkedSince = Gauge
metric_kind metric.WorkerClients = Gauge
metric_kind metric.WorkerConnections = Gauge
metric_kind metric.WorkerWaiting = Gauge
metric_kind metric.Build = Gauge
metric_kind metric.Descriptors = Gauge
metric_kind metric.DescriptorLimit = Gauge
metric_kind metric.Memory = Gauge

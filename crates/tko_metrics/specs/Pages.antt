-- The page of a server's metrics.
use Rattle.std.specs.Prelude.{◌≡◌, ℕ, List, [], ◌++◌, Option, Some, None, codes, flat_map, map, option_map, sum_by}
use Rattle.tko_bytes.specs.Numbers.{capped}
use Rattle.tko_metrics.specs.declared.build.Build.{Build}
use Rattle.tko_metrics.specs.declared.metrics.Metric.{Metric}
use Rattle.tko_metrics.specs.declared.metrics.Metric.TheVariants as metric
use Rattle.tko_metrics.specs.declared.page.Page.{Page}
use Rattle.tko_metrics.specs.declared.reading.ServerNumber.{ServerNumber}
use Rattle.tko_metrics.specs.declared.reading.ServerNumber.TheVariants.{Sends, Probes, Ended, InFlight}
use Rattle.tko_metrics.specs.declared.reading.Shown.{Shown}
use Rattle.tko_metrics.specs.declared.reading.Sums.{Sums}
use Rattle.tko_metrics.specs.declared.sent_end.SentEnd.{SentEnd}
use Rattle.tko_metrics.specs.declared.sent_end.SentEnd.TheVariants as end
use Rattle.tko_metrics.specs.declared.timed.TimedServer.{TimedServer}
use Rattle.tko_metrics.specs.declared.worker_meter.Ending.TheVariants as ending
use Rattle.tko_metrics.specs.declared.workers.WorkerReading.{WorkerReading}
use Rattle.tko_metrics.specs.declared.marking.Marking.{Marking}
use Rattle.tko_metrics.specs.declared.marking.Marking.TheVariants.{Up, Soft, Hard}
use Rattle.tko_metrics.specs.Loads.{AreWorkersIf, known_loads}
use Rattle.tko_metrics.specs.Samples.{build_sample, head_of, kind_sample, moment_sample, part_sample, server_sample, single, words_text}
use Rattle.tko_metrics.specs.Readings.{server_number}
use Rattle.tko_metrics.specs.TimesTexts.{times_text}
use Rattle.tko_metrics.specs.Traffic.{IsOfCommands, IsOfRefusals, end_word}

-- the clients, and the sessions that have ended
unfoldable pub clients_text : Page → List ℕ
clients_text page =
    single metric.Connected page.connected ++ single metric.Accepted page.accepted
    ++ single metric.Dropped page.dropped ++ single metric.Sessions page.sums.sessions

-- the sessions that ended by each kind of fault
unfoldable pub faults_text : Sums → List ℕ
faults_text sums =
    head_of metric.Faults ++ kind_sample metric.Faults ending.Read sums.read_faults
    ++ kind_sample metric.Faults ending.Write sums.write_faults
    ++ kind_sample metric.Faults ending.LineTooLong sums.line_faults
    ++ kind_sample metric.Faults ending.Memory sums.memory_faults

unfoldable pub requests_text : Sums → List ℕ
requests_text sums =
    single metric.Requests sums.requests ++ single metric.Attempts sums.attempts
    ++ single metric.Skips sums.skips ++ single metric.Replies sums.replies
    ++ single metric.NoServer sums.no_server

-- what clients asked, and how that went
unfoldable pub traffic_text : Page → List ℕ
traffic_text page =
    words_text metric.Refused (codes "kind") page.refusals.items
    ++ words_text metric.Commands (codes "command") page.commands.items
    ++ single metric.Hits page.sums.hits ++ single metric.Misses page.sums.misses
    ++ head_of metric.RequestTimes ++ times_text metric.RequestTimes None page.request_times

-- the probes of all servers
abbrev pub probes_in_all : List Shown → ℕ
probes_in_all servers = capped (sum_by (λ server. server.reading.probes) servers)

unfoldable pub counts_text : Page → List ℕ
counts_text page =
    clients_text page ++ faults_text page.sums ++ requests_text page.sums ++ traffic_text page
    ++ single metric.Probes (probes_in_all page.servers.items)

-- a number of a server
abbrev pub number_sample : Metric → ServerNumber → Shown → List ℕ
number_sample metric which server =
    server_sample metric server.address.now (server_number which server.reading)

unfoldable pub server_numbers_text : Metric → ServerNumber → List Shown → List ℕ
server_numbers_text metric which servers =
    head_of metric ++ flat_map (number_sample metric which) servers

-- how often what was sent to a server came to this
abbrev pub outcome_sample : Shown → SentEnd → List ℕ
outcome_sample server end =
    part_sample metric.ServerOutcomes server.address.now (codes "outcome") (end_word end)
    (server_number (Ended end) server.reading)

-- what came of what was sent to a server
unfoldable pub outcome_samples : Shown → List ℕ
outcome_samples server =
    outcome_sample server end.Reply ++ outcome_sample server end.Timeout
    ++ outcome_sample server end.Refused ++ outcome_sample server end.Broken
    ++ outcome_sample server end.Aborted

unfoldable pub outcomes_text : List Shown → List ℕ
outcomes_text servers = head_of metric.ServerOutcomes ++ flat_map outcome_samples servers

-- how many requests are in flight to each server; workers that are not event-driven tell none
abbrev pub known_in_flight : Option (List WorkerReading) → List Shown → List ℕ
known_in_flight (Some workers) servers = server_numbers_text metric.InFlight InFlight servers
known_in_flight None servers = []

abbrev pub in_flight_text : Page → List ℕ
in_flight_text page =
    known_in_flight (option_map (λ workers. workers.items) page.workers) page.servers.items

-- how long a server took to answer
abbrev pub times_of : TimedServer → List ℕ
times_of server = times_text metric.ResponseTimes (Some server.address.now) server.times

unfoldable pub timed_text : List TimedServer → List ℕ
timed_text servers = head_of metric.ResponseTimes ++ flat_map times_of servers

abbrev pub soft_flag : Marking → ℕ
soft_flag Up = 0
soft_flag Soft = 1
soft_flag Hard = 0

abbrev pub hard_flag : Marking → ℕ
hard_flag Up = 0
hard_flag Soft = 0
hard_flag Hard = 1

-- whether a server has each of the two marks
unfoldable pub mark_samples : Shown → List ℕ
mark_samples server =
    part_sample metric.ServerMarked server.address.now (codes "mark") (codes "soft")
    (soft_flag server.reading.mark)
    ++ part_sample metric.ServerMarked server.address.now (codes "mark") (codes "hard")
    (hard_flag server.reading.mark)

unfoldable pub marks_text : List Shown → List ℕ
marks_text servers = head_of metric.ServerMarked ++ flat_map mark_samples servers

-- since when a server with this address is marked, if it is
abbrev pub moment_with : List ℕ → Marking → ℕ → List ℕ
moment_with address Up since = []
moment_with address Soft since = moment_sample metric.MarkedSince address since
moment_with address Hard since = moment_sample metric.MarkedSince address since

abbrev pub mark_moment_of : Shown → List ℕ
mark_moment_of server = moment_with server.address.now server.reading.mark server.reading.since

unfoldable pub moments_text : List Shown → List ℕ
moments_text servers = head_of metric.MarkedSince ++ flat_map mark_moment_of servers

unfoldable pub servers_text : Page → List ℕ
servers_text page =
    server_numbers_text metric.ServerSends Sends page.servers.items
    ++ server_numbers_text metric.ServerProbes Probes page.servers.items
    ++ outcomes_text page.servers.items ++ in_flight_text page ++ timed_text page.timed.items
    ++ marks_text page.servers.items ++ moments_text page.servers.items

-- what the workers serve, if they are event-driven
abbrev pub workers_text : Page → List ℕ
workers_text page = known_loads (option_map (λ workers. workers.items) page.workers)

-- a metric whose number the system may not tell
abbrev pub known_text : Metric → Option ℕ → List ℕ
known_text metric (Some number) = single metric number
known_text metric None = []

-- which build the process runs
unfoldable pub build_text : Build → List ℕ
build_text build = head_of metric.Build ++ build_sample metric.Build build

-- the build that the process runs, and what the system says of the process
unfoldable pub process_text : Page → List ℕ
process_text page =
    build_text page.build ++ known_text metric.Descriptors page.descriptors
    ++ known_text metric.DescriptorLimit page.descriptor_limit
    ++ known_text metric.Memory page.memory

abbrev pub page_text : Page → List ℕ
page_text page =
    counts_text page ++ servers_text page ++ workers_text page ++ process_text page

-- the text is a page of some numbers, over servers of these addresses, in a process of this build;
-- where it shows workers, it shows each of so many
pub record IsPage (addresses : List (List ℕ)) (run : Build) (count : ℕ) (text : List ℕ) : Type 0
  where
    pub page : Page
    pub of_build : page.build ≡ run
    pub servers : map (λ server. server.address.now) page.servers.items ≡ addresses
    pub timed : map (λ server. server.address.now) page.timed.items ≡ addresses
    pub refusals : IsOfRefusals page.refusals.items
    pub commands : IsOfCommands page.commands.items
    pub workers : AreWorkersIf count (option_map (λ workers. workers.items) page.workers)
    pub text_is : text ≡ page_text page

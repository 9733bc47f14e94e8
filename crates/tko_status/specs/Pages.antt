-- The page for people.
use Rattle.std.specs.Prelude.{ℕ, ◌-◌, Bool, true, false, List, [], ◌++◌, Option, Some, None, codes, decimal, flat_map, is_some, length, option_map, slice_get, string_bytes}
use Rattle.std.specs.List.{filter}
use Rattle.tko_metrics.specs.declared.health.ShownPool.{ShownPool}
use Rattle.tko_metrics.specs.declared.load.WorkerLoad.{WorkerLoad}
use Rattle.tko_metrics.specs.declared.reading.Shown.{Shown}
use Rattle.tko_metrics.specs.declared.timed.TimedServer.{TimedServer}
use Rattle.tko_metrics.specs.declared.workers.WorkerReading.{WorkerReading}
use Rattle.tko_metrics.specs.Health.{in_use}
use Rattle.tko_status.specs.declared.page.StatusPage.{StatusPage}
use Rattle.tko_status.specs.declared.past.PastReading.{PastReading}
use Rattle.tko_status.specs.declared.pieces.Piece.{Piece}
use Rattle.tko_status.specs.declared.pieces.Piece.TheVariants as piece
use Rattle.tko_status.specs.Cells.{number_cell}
use Rattle.tko_status.specs.Counts.{grown}
use Rattle.tko_status.specs.Durations.{duration_text, rate_text}
use Rattle.tko_status.specs.Escaping.{escaped}
use Rattle.tko_status.specs.Past.{bucket_counts}
use Rattle.tko_status.specs.Pieces.{piece_text}
use Rattle.tko_status.specs.Rows.{row_text}

-- what lets a browser ask again after 2 seconds, if it is to
abbrev pub refresh_text : Bool → List ℕ
refresh_text true = piece_text piece.Refresh
refresh_text false = []

unfoldable pub head_text : StatusPage → List ℕ
head_text page =
    piece_text piece.HeadFront ++ refresh_text page.is_refreshed ++ piece_text piece.Style
    ++ piece_text piece.HeadEnd

-- what the page says of being refreshed
abbrev pub refresh_note : Bool → Piece
refresh_note true = piece.RefreshOn
refresh_note false = piece.RefreshOff

-- the version, for how long it runs, and whether the page is refreshed
unfoldable pub header_text : StatusPage → List ℕ
header_text page =
    escaped page.build.version.now ++ piece_text piece.Running ++ duration_text page.uptime
    ++ piece_text (refresh_note page.is_refreshed)

-- a number with what it counts
unfoldable pub number_item : List ℕ → ℕ → List ℕ
number_item label number =
    (codes "<div><dt>" ++ label ++ codes "</dt><dd>") ++ decimal number ++ piece_text piece.ItemEnd

-- how many requests a second there were since this reading
abbrev pub rate_since : StatusPage → Option PastReading → List ℕ
rate_since page (Some first) =
    rate_text (page.status.sums.requests - first.requests) (page.uptime - first.moment)
rate_since page None = rate_text 0 0

-- the same of the last minute
abbrev pub recent_rate : StatusPage → List ℕ
recent_rate page = rate_since page (slice_get page.past.now 0)

unfoldable pub rate_item : StatusPage → List ℕ
rate_item page =
    piece_text piece.RateFront ++ recent_rate page ++ piece_text piece.ItemEnd

-- how many clients there are, and how often they ask
unfoldable pub client_items : StatusPage → List ℕ
client_items page =
    number_item (codes "Clients connected") page.status.connected ++ rate_item page
    ++ number_item (codes "Requests") page.status.sums.requests

-- what became of what the clients asked
unfoldable pub traffic_items : StatusPage → List ℕ
traffic_items page =
    number_item (codes "Hits") page.status.sums.hits
    ++ number_item (codes "Misses") page.status.sums.misses
    ++ number_item (codes "Refused") page.status.refused

unfoldable pub overview_text : StatusPage → List ℕ
overview_text page =
    client_items page ++ traffic_items page ++ piece_text piece.ItemsEnd

-- how many servers of a pool are in use
unfoldable pub pool_use_text : ℕ → ℕ → List ℕ
pool_use_text used all =
    decimal used ++ codes " of " ++ decimal all ++ piece_text piece.CaptionEnd

-- the beginning of the table of a pool
unfoldable pub caption_text : List ℕ → ℕ → ℕ → List ℕ
caption_text name used all =
    piece_text piece.PoolFront ++ escaped name ++ codes "</b>: "
    ++ pool_use_text used all

-- how many answers of a server, if there is one, took no longer than each bound
abbrev pub reading_times : Option (List ℕ) → List ℕ
reading_times (Some counts) = counts
reading_times None = []

-- the same of this server at a reading, if there was one
abbrev pub past_times : ℕ → Option PastReading → List ℕ
past_times number (Some first) =
    reading_times (option_map (λ counts. counts.items) (slice_get first.times.items number))
past_times number None = []

-- the same of all answers until a minute ago
abbrev pub past_counts : StatusPage → ℕ → List ℕ
past_counts page number = past_times number (slice_get page.past.now 0)

-- the answers since those, by the bounds that they took at most
abbrev pub counts_since : List ℕ → Option TimedServer → List ℕ
counts_since before (Some server) = grown (bucket_counts server.times.buckets.items) before
counts_since before None = []

-- the answers of the last minute of the server of this number
abbrev pub recent_counts : StatusPage → ℕ → List ℕ
recent_counts page number =
    counts_since (past_counts page number) (slice_get page.status.timed.items number)

-- whether the workers are event-driven, and so tell what they have to do with each server
abbrev pub is_event_driven : StatusPage → Bool
is_event_driven page = is_some page.status.workers

abbrev pub known_row : StatusPage → ℕ → Option Shown → List ℕ
known_row page number (Some server) =
    row_text server page.moment (is_event_driven page) (recent_counts page number)
known_row page number None = []

-- the row of the server of this number
abbrev pub member_row : StatusPage → ℕ → List ℕ
member_row page number = known_row page number (slice_get page.status.servers.items number)

-- a pool: how many of its servers are in use, and a row for each
unfoldable pub pool_table : StatusPage → ShownPool → List ℕ
pool_table page pool =
    caption_text (string_bytes pool.name)
    (length (filter (in_use page.status.servers.items) pool.servers.items))
    (length pool.servers.items)
    ++ flat_map (member_row page) pool.servers.items ++ piece_text piece.TableEnd

-- the pools, in order
abbrev pub pool_tables : StatusPage → List ℕ
pool_tables page = flat_map (pool_table page) page.pools.now

-- the load of a worker
unfoldable pub load_cells : WorkerLoad → List ℕ
load_cells load =
    number_cell load.clients ++ number_cell load.connections ++ number_cell load.waiting

unfoldable pub worker_row : WorkerReading → List ℕ
worker_row each =
    piece_text piece.WorkerRow ++ decimal each.worker ++ codes "</th>"
    ++ load_cells each.load ++ codes "</tr>\n"

unfoldable pub worker_table : List WorkerReading → List ℕ
worker_table workers =
    piece_text piece.WorkersFront ++ flat_map worker_row workers ++ piece_text piece.TableEnd

abbrev pub known_workers : Option (List WorkerReading) → List ℕ
known_workers (Some workers) = worker_table workers
known_workers None = []

-- the workers, if they are event-driven
abbrev pub workers_part : StatusPage → List ℕ
workers_part page = known_workers (option_map (λ workers. workers.items) page.status.workers)

-- the tables, and the end of the page
unfoldable pub tables_text : StatusPage → List ℕ
tables_text page = pool_tables page ++ workers_part page ++ piece_text piece.PageEnd

abbrev pub status_page_text : StatusPage → List ℕ
status_page_text page =
    head_text page ++ header_text page ++ overview_text page ++ tables_text page

-- A client's time: when a round is due while it is served, and when its time is over.
use Rattle.std.specs.Prelude.{◌-◌, ◌==◌, nat_lt, if◌then◌else◌, ℕ, Option, Some, None}
use Rattle.tko_pace.specs.Silence.{is_over}
use Rattle.tko_threads.specs.declared.watch.WatchNext.{WatchNext}
use Rattle.tko_threads.specs.declared.watch.WatchNext.TheVariants.{Read, Idle, Over}
use Rattle.tko_threads.specs.declared.watch.Watch.{Watch}

-- for how many milliseconds at most a worker waits for its client until it looks at the time again
abbrev pub longest_wait : ℕ
longest_wait = 100

-- whose turn it is at this moment: the client's time is over where it has a limit, and completed no
-- request for so long; a round is due so long after the last one ended; else bytes are read
abbrev pub turn_at : Watch → ℕ → WatchNext
turn_at watch now =
    if is_over watch.limit watch.since now then Over
    else (if nat_lt (now - watch.rounded) longest_wait then Read else Idle)

-- a round begins at an idle turn
abbrev pub resting : ℕ → Watch → Watch
resting now watch = record watch { waited = Some (now - watch.since) }

-- a round at an idle turn, if one was run, has ended: its time does not count for the client
abbrev pub rested : Option ℕ → ℕ → Watch → Watch
rested None now watch = watch
rested (Some waited) now watch = record watch { since = now - waited; rounded = now; waited = None }

-- what is known at this moment: where there were more requests, the last one and its round have
-- just been completed
abbrev pub caught_up : Watch → ℕ → ℕ → Watch
caught_up watch now requests =
    if watch.requests == requests then rested watch.waited now watch
    else record watch { requests = requests; since = now; rounded = now; waited = None }

-- another client begins
abbrev pub begun_watch : ℕ → ℕ → Watch → Watch
begun_watch limit now watch = record watch { limit = limit; since = now }

-- at an idle turn a round begins
abbrev pub after_watch_turn : WatchNext → ℕ → Watch → Watch
after_watch_turn Read now watch = watch
after_watch_turn Idle now watch = resting now watch
after_watch_turn Over now watch = watch

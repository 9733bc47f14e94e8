-- How a connection makes progress.
use Rattle.std.specs.Prelude.{ℕ, ◌+◌, ◌-◌, max, nat_le, if◌then◌else◌, Option, Some, None}
use Rattle.tko_bytes.specs.Numbers.{capped}
use Rattle.tko_pipe.specs.declared.window.Window.{Window}

-- how many bytes are progress of a connection
abbrev pub progress : ℕ
progress = 65536

-- that of a connection on which no byte came
abbrev pub unbegun_window : Window
unbegun_window = record { since = None; came = 0 }

-- it begins at this moment
abbrev pub begun_window : ℕ → Window
begun_window now = record { since = Some now; came = 0 }

-- after a read of so many bytes at this moment: it begins anew with all bytes that are progress
abbrev pub read_window : ℕ → ℕ → Window → Window
read_window now count window =
    if nat_le (progress - window.came) count then begun_window now
    else record { since = window.since; came = window.came + count }

-- the end of a time limit that began at this moment; a clock of 64 bits shows none after the last
abbrev pub limit_after : ℕ → ℕ → ℕ
limit_after limit since = capped (since + limit)

-- no earlier than this moment, nor than a time limit after that one
abbrev pub later_after : Option ℕ → ℕ → ℕ → ℕ
later_after None limit due = due
later_after (Some since) limit due = max due (limit_after limit since)

-- the moment at which a response is late that is due at this one
abbrev pub late_after : Window → ℕ → ℕ → ℕ
late_after window limit due = later_after window.since limit due

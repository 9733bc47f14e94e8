-- Whether all events were noted that had come before a poll.
use Rattle.std.specs.Prelude.{◌+◌, ◌||◌, nat_le, nat_lt, if◌then◌else◌, ℕ, Bool}
use Rattle.tko_bytes.specs.Numbers.{capped}

-- none is left: a poll gave fewer than the most events that it may give, or those in a row gave one
-- for each socket
abbrev pub are_all_noted : (noted count most sockets : ℕ) → Bool
are_all_noted noted count most sockets =
    nat_lt count most || nat_le sockets (capped (noted + count))

-- how many were noted since none was left
abbrev pub events_left : (noted count most sockets : ℕ) → ℕ
events_left noted count most sockets =
    if are_all_noted noted count most sockets then 0 else capped (noted + count)

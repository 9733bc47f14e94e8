-- How long the poll may wait, in milliseconds.
use Rattle.std.specs.Prelude.{◌-◌, ℕ, Option, Some, None, min}

-- the longest wait
abbrev pub longest : ℕ
longest = 100

-- the longest wait while a server's host is looked up
abbrev pub longest_look_up : ℕ
longest_look_up = 10

-- until the next response is due, and no longer than so long
abbrev pub pause_of : (most : ℕ) → Option ℕ → ℕ → ℕ
pause_of most None now = most
pause_of most (Some due) now = min (due - now) most

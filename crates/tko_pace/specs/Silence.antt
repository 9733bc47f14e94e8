-- How long a client may complete no request.
use Rattle.std.specs.Prelude.{◌-◌, ◌&&◌, nat_lt, nat_le, ℕ, Bool}

-- a client that completed no request since then has no time left now: it has a limit, and so long
-- passed
abbrev pub is_over : (limit since now : ℕ) → Bool
is_over limit since now = nat_lt 0 limit && nat_le limit (now - since)

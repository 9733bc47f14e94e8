-- The first time that each worker asks for a connection.
use Rattle.std.specs.Prelude.{◌≡◌}
use Rattle.tko_accept.specs.declared.first_asks.FirstAsks.{FirstAsks}

-- each worker has asked for its first connection
abbrev pub HaveAllAsked : FirstAsks → Type 0
HaveAllAsked asks = asks.missing ≡ 0

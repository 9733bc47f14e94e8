-- The server that a session's send is out to.
use Rattle.std.specs.Prelude.{ℕ, Option, Some, None}
use Rattle.tko_session.specs.Working.{Awaits, Between, Ended, HandedOver, Read, Work}

abbrev pub awaited_in : Work → Option ℕ
awaited_in Between = None
awaited_in (Read one) = None
awaited_in (Awaits it) = Some it.awaited.server
awaited_in (Ended one) = None
awaited_in HandedOver = None

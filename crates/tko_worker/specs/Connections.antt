-- The connections to servers.
use Rattle.std.specs.Prelude.{Bool, is_some}
use Rattle.tko_port.specs.declared.peer.Peer.{Peer}

-- whether there is a connection to a server, made or being made
abbrev pub has_socket : {L : Type 0} → Peer L → Bool
has_socket peer = is_some peer.socket

-- A socket with what is kept for it, as a port of a worker.
use Rattle.tko_port.specs.Ports.{PortState}
use Rattle.tko_socket.specs.Sockets.{port_of}
use Rattle.tko_loop.specs.declared.held.Held.{Held}

abbrev pub held_port : {K : Type 0} → Held K → PortState
held_port it = port_of it.socket

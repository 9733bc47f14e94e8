-- A client stays ready whatever calls of others do.
use Rattle.std.specs.Prelude.{List, ℕ}
use Rattle.tko_port.specs.declared.guest.Presence.{Presence}
use Rattle.tko_port.specs.declared.guest.Presence.TheVariants.{Here, Leaving}
use Rattle.tko_port.specs.Lives.{ReadyBy}
use Rattle.tko_port.specs.Ports.{PortState}
use Rattle.tko_port.specs.Talks.{Readiness}

-- where its session does, whatever came to it and went from it
pub guest_stays : {P T : Type 0} (ready : Readiness P T) (presence : Presence) (port : PortState)
    (talk : T) (old new : P)
    → ((came went : List ℕ) → ready old came went talk → ready new came went talk)
    → ReadyBy ready presence old port talk → ReadyBy ready presence new port talk
guest_stays ready Here port talk old new stays was = stays port.read port.written was
guest_stays ready (Leaving why) port talk old new stays was = record {
  came = was.came;
  lost = was.lost;
  all = was.all;
  is = stays was.came port.written was.is;
}

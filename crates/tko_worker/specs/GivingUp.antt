-- A client whose request waits too long behind others goes on to its next target.
use Rattle.std.specs.Prelude.{◌≡◌, ℕ, Option}
use Rattle.tko_text.specs.declared.request.Request.{Request}
use Rattle.tko_mux.specs.declared.mux.delivery.Delivery.{Delivery}
use Rattle.tko_mux.specs.Giving.{AllWaitOn, GiveUpEnds, NextOf}
use Rattle.tko_mux.specs.Muxes.{MuxState, WaitsFor}
use Rattle.tko_port.specs.declared.guest.Guest.{Guest}
use Rattle.tko_port.specs.declared.guest.SharedParts.{SharedParts}
use Rattle.tko_port.specs.declared.guest.Turned.{Turned}
use Rattle.tko_port.specs.declared.peer.Peer.{Peer}
use Rattle.tko_port.specs.Guests.{IsGuestCall}
use Rattle.tko_worker.specs.Servers.{ListsReached}
use Rattle.tko_worker.specs.Workers.{Sight, WorkerState}

-- the next of those that wait for a server gave up, and its client is to be served in this turn; or
-- nobody is to give up at this moment
pub record HasGivenUpNext {L T P : Type 0} (sight : Sight L T)
    (asks_for : Guest L T → Option Request) (waits_for : WaitsFor (Guest L T))
    (has_next : NextOf (Guest L T)) (old : WorkerState L T P) (server now due : ℕ)
    (result : Option (Delivery Turned)) (new : WorkerState L T P) : Type 0 where
  pub mid : MuxState (Guest L T) (SharedParts P)
  pub gave : GiveUpEnds (IsGuestCall sight.0 sight.1 sight.2) (λ guest. sight.0 guest.talk)
      asks_for waits_for has_next old.mux server now due result mid
  pub listed : ListsReached sight (mid, old.ends) result old.spent old.touched
      (new.mux, new.ends) new.touched
  pub spent : new.spent ≡ old.spent

-- nobody is to give up at this moment, and nothing changed
pub record NobodyGivesUp {L T P : Type 0} (has_next : NextOf (Guest L T)) (server now : ℕ)
    (old new : WorkerState L T P) (was is : Peer L) : Type 0 where
  pub kept : new ≡ old
  pub peer : is ≡ was
  pub wait : AllWaitOn has_next new.mux server now

-- What the clients of a worker did, one act after another, and which ends were counted.
use Rattle.std.specs.Prelude.{◌≡◌, ℕ, ◌+◌, List, [], ◌∷◌, length}
use Rattle.tko_model.specs.Records.{Gains}
use Rattle.tko_roster.specs.Rosters.{Acted, Admitted, IsRosterStep, IsServed, Released, RosterAct, RosterState}
use Rattle.tko_roster.specs.Tagged.{Tagged}
use Rattle.tko_mux.specs.declared.client.Client.{Client}
use Rattle.tko_mux.specs.Asks.{AskedCall, IsCall}
use Rattle.tko_port.specs.declared.guest.ClientEvent.{ClientEvent}
use Rattle.tko_port.specs.declared.guest.Guest.{Guest}
use Rattle.tko_port.specs.declared.guest.SharedParts.{SharedParts}
use Rattle.tko_port.specs.declared.guest.Turned.{Turned}
use Rattle.tko_port.specs.declared.settling.End.{End}
use Rattle.tko_port.specs.Guests.{IsGuestCall}
use Rattle.tko_worker.specs.declared.ends.EndCounts.{EndCounts}
use Rattle.tko_worker.specs.Counts.{counted_end}
use Rattle.tko_port.specs.Talks.{Readiness}
use Rattle.tko_worker.specs.Workers.{IsInOrder, Sight, WorkerState}

-- what a client does: it comes, is called, or leaves
abbrev pub ClientAct : Type 0 → Type 0 → Type 0
ClientAct L T = RosterAct (Client (Guest L T)) (AskedCall ClientEvent Turned)

-- the clients, and how many ended
abbrev pub RosterAndEnds : Type 0 → Type 0 → Type 0 → Type 0
RosterAndEnds L T P = RosterState (Client (Guest L T)) (SharedParts P) × EndCounts

-- a client that leaves is counted as one end, and nothing else is counted
abbrev pub CountsAct : {L T : Type 0} → ClientAct L T → EndCounts → EndCounts → Type 0
CountsAct (Admitted client) old new = new ≡ old
CountsAct (Acted call) old new = new ≡ old
CountsAct (Released client) old new = (why : End) × (new ≡ counted_end why old)

-- one act
abbrev pub IsClientStep : {L T P : Type 0} → Sight L T → RosterAndEnds L T P
    → Tagged (ClientAct L T) → RosterAndEnds L T P → Type 0
IsClientStep sight old it new =
    IsRosterStep (IsCall (IsGuestCall sight.0 sight.1 sight.2) (λ guest. sight.0 guest.talk))
    (λ client. sight.0 client.session.talk) old.0 it new.0
    × CountsAct it.item old.1 new.1

-- clients acted, in some order
pub record HaveActed {L T P : Type 0} (sight : Sight L T) (old new : RosterAndEnds L T P) : Type 0
  where
    pub acts : List (Tagged (ClientAct L T))
    pub gains : Gains (IsClientStep sight) old acts new

-- the same of a worker's
abbrev pub HasActed : {L T P : Type 0} → Sight L T → WorkerState L T P → WorkerState L T P → Type 0
HasActed sight old new = HaveActed sight (old.mux.roster, old.ends) (new.mux.roster, new.ends)

-- clients of a worker acted, and it is in order after that
pub record ActsInOrder {L T P : Type 0} (sight : Sight L T) (is_ready : Readiness P T)
    (old new : WorkerState L T P) : Type 0 where
  pub acted : HasActed sight old new
  pub order : IsInOrder sight is_ready new

-- how many of these acts are of clients that left
abbrev pub one_left : {L T : Type 0} → ClientAct L T → ℕ
one_left (Admitted client) = 0
one_left (Acted call) = 0
one_left (Released client) = 1

abbrev pub clients_left_in : {L T : Type 0} → List (Tagged (ClientAct L T)) → ℕ
clients_left_in [] = 0
clients_left_in (it ∷ acts) = one_left it.item + clients_left_in acts

-- these ends were counted, one after another
abbrev pub all_counted : List End → EndCounts → EndCounts
all_counted [] ends = ends
all_counted (why ∷ whys) ends = all_counted whys (counted_end why ends)

-- the clients of a worker were served: each number by its own acts, over the parts as they were
-- then; and there were as many ends as clients that left
pub record HasServed {L T P : Type 0} (sight : Sight L T) (old new : WorkerState L T P) : Type 0
  where
    pub acts : List (Tagged (ClientAct L T))
    pub served : IsServed
        (IsCall (IsGuestCall sight.0 sight.1 sight.2) (λ guest. sight.0 guest.talk))
        (λ client. sight.0 client.session.talk) old.mux.roster acts new.mux.roster
    pub whys : List End
    pub each : length whys ≡ clients_left_in acts
    pub ends : new.ends ≡ all_counted whys old.ends

-- The members of a server whose workers are event-driven: each has what the options ask for.
use Rattle.std.specs.Prelude.{◌≡◌, ℕ, List, All, [], ◌∷◌, ◌++◌, length, map}
use Rattle.tko_accept.specs.declared.room.ClientPlace.{ClientPlace}
use Rattle.tko_event_threads.specs.Worked.{IsEventEquipped}
use Rattle.tko_event_threads.specs.declared.working.EventParts.{EventParts}
use Rattle.tko_loop.specs.Addresses.{AreAddressesOf as IsAddressesOf}
use Rattle.tko_loop.specs.declared.addresses.Addresses.{Addresses}
use Rattle.tko_loop.specs.declared.limits.LoopLimits.{LoopLimits}
use Rattle.tko_model.specs.Records.{Gains}
use Rattle.tko_prober.specs.Probers.{no_probers}
use Rattle.tko_server.specs.declared.event_members.EventMember.{EventMember}
use Rattle.tko_server.specs.declared.running.Options.{Options}
use Rattle.tko_tcp.specs.ServerHosts.{LeadsTo}
use Rattle.tko_tcp.specs.declared.server_host.ServerHost.{ServerHost}
use Rattle.tko_tracker.specs.Seated.{IsOf, Seated, TrackerId}

-- how long its clients and its servers are waited for, in milliseconds, and how many bytes of
-- replies may wait: 64 MiB
abbrev pub event_limits : Options → LoopLimits
event_limits options = record {
  response = options.timeout;
  write = options.patience.write_timeout;
  idle = options.patience.idle_timeout;
  unwritten = 67_108_864;
}

-- one server more, which is where this address of the configuration leads
pub record IsOneMore (old : List Addresses) (address : List ℕ) (new : List Addresses) : Type 0 where
  pub it : Addresses
  pub host : ServerHost
  pub leads : LeadsTo address host
  pub is : IsAddressesOf host it
  pub pushed : new ≡ old ++ it ∷ []

-- a server for each of these addresses, in order
abbrev pub AreServersAt : List (List ℕ) → List Addresses → Type 0
AreServersAt addresses servers = Gains IsOneMore [] addresses servers

-- what a worker works with is what the options ask for
pub record HasEventOptions {S : Type 0} (options : Options) (parts : EventParts S ClientPlace)
    : Type 0
  where
    pub config : parts.config ≡ options.config
    pub servers : AreServersAt options.config.addresses parts.servers.items
    pub limits : parts.limits ≡ event_limits options
    pub keys : parts.keys ≡ options.keys
    pub probers : parts.probers ≡ no_probers options.delays (length options.config.addresses)

-- ready at this tracker without a lock
pub record IsEventReadyAt {S : Type 0} (tracker : TrackerId) (member : EventMember Seated S)
    : Type 0
  where
    pub seat : IsOf tracker member.idle
    pub equipped : IsEventEquipped (λ _. tracker.settings.servers) member.parts

-- each of these members is so
abbrev pub AreEventReadyAt : {S : Type 0} → TrackerId → List (EventMember Seated S) → Type 0
AreEventReadyAt tracker members = All (λ member. IsEventReadyAt tracker member) members

-- one for each pass, in order, with what the options ask for, and ready at this tracker
pub record AreEventMembersOf {S : Type 0} (options : Options) (tracker : TrackerId)
    (seats : List Seated) (members : List (EventMember Seated S)) : Type 0
  where
    pub number : length members ≡ length seats
    pub seated : map (λ member. member.idle) members ≡ seats
    pub ready : AreEventReadyAt tracker members
    pub asked : All (λ member. HasEventOptions options member.parts) members

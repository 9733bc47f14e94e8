-- The members of a server's pool: each has what the options ask for.
use Rattle.std.specs.Prelude.{◌≡◌, ◌*◌, List, All, length, map}
use Rattle.tko_tcp.specs.ProbeTimes.{nanos_in_milli}
use Rattle.tko_tcp.specs.TcpWires.{TcpState}
use Rattle.tko_links.specs.Wired.{WiredState}
use Rattle.tko_prober.specs.Probers.{no_probers}
use Rattle.tko_server.specs.declared.running.Options.{Options}
use Rattle.tko_threads.specs.Workers.{AreMembersReady, IsMemberReady}
use Rattle.tko_threads.specs.declared.pooling.Member.{Member}
use Rattle.tko_threads.specs.declared.working.WorkerParts.{WorkerParts}
use Rattle.tko_tracker.specs.Seated.{IsOf, Seated, TrackerId}

-- what a worker works with is what the options ask for
pub record HasOptions {S M : Type 0} (options : Options)
    (parts : WorkerParts S (WiredState TcpState) M) : Type 0
  where
    pub config : parts.config ≡ options.config
    pub addresses : parts.links.wire.addresses ≡ options.config.addresses
    pub time_limit : parts.links.wire.whole ≡ options.timeout * nanos_in_milli
    pub probers : parts.probers ≡ no_probers options.delays (length options.config.addresses)

-- ready at this tracker without a lock, and by links over a wire
abbrev pub IsReadyAt : {C S W M : Type 0} → TrackerId → Member C Seated S (WiredState W) M
    → Type 0
IsReadyAt tracker member =
    IsMemberReady (λ _ idle. IsOf tracker idle) (λ _. tracker.settings.servers)
    (λ links. length links.sends) member

-- each of these members is so
abbrev pub AreReadyAt : {C S W M : Type 0} → TrackerId → List (Member C Seated S (WiredState W) M)
    → Type 0
AreReadyAt tracker members =
    AreMembersReady (λ _ idle. IsOf tracker idle) (λ _. tracker.settings.servers)
    (λ links. length links.sends) members

-- as many as the options ask for, each with what they ask for, and ready at this tracker; each has
-- the pass of its place
pub record AreMembersOf {C S M : Type 0} (options : Options) (tracker : TrackerId)
    (seats : List Seated) (members : List (Member C Seated S (WiredState TcpState) M)) : Type 0
  where
    pub number : length members ≡ options.settings.threads
    pub seated : map (λ member. member.idle) members ≡ seats
    pub ready : AreReadyAt tracker members
    pub asked : All (λ member. HasOptions options member.parts) members

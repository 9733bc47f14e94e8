-- A round: at one moment each server that was marked gets its prober, and then each prober is
-- stopped, rests or sends one probe, in number order.
use Rattle.std.specs.Prelude.{◌≡◌, ◌↔◌, ℕ, ◌+◌, Bool, false, ◌&&◌, ◌==◌, List, length, map, count_by, Option, Some, None, Result, Ok, is_err}
use Rattle.std.specs.List.{list_any}
use Rattle.tko_model.specs.declared.mark.Reply.{Reply}
use Rattle.tko_model.specs.Records.{Gains}
use Rattle.tko_links.specs.declared.links.ExchangeNoMemory.{ExchangeNoMemory}
use Rattle.tko_links.specs.declared.links.Outcome.{Outcome}
use Rattle.tko_links.specs.declared.links.Outcome.TheVariants as outcome
use Rattle.tko_links.specs.Links.{WasProbed, is_counted, most_sends, part_of}
use Rattle.tko_pools.specs.Configs.{numbers_below}
use Rattle.tko_prober.specs.declared.prober.Prober.{Prober}
use Rattle.tko_prober.specs.Probes.{IsDue, asked_after, sent}
use Rattle.tko_route.specs.Trail.{IsRecorded}
use Rattle.tko_prober.specs.declared.backend.Backend.{Backend}
use Rattle.tko_prober.specs.declared.rounds.ProbeEnd.{ProbeEnd}
use Rattle.tko_prober.specs.Ghosts.{BackendGhosts}
use Rattle.tko_prober.specs.Halves.{IsRested, IsStopped}
use Rattle.tko_prober.specs.Probers.{begun_at, op_asked, probed_of, prober_of, slot_after, with_slot}

-- what a round did at a server: it has no prober; its prober was stopped; its prober rests; or it
-- was probed, which came to this, its result came at this moment, and the tracker gave this reply
-- to the call that recorded it
pub data Visit : Type 0 where
  Absent : (server : ℕ) → Visit
  Stopped : (server : ℕ) → Visit
  Rested : (server : ℕ) → Visit
  Probed : (server : ℕ) (came : Result Outcome ExchangeNoMemory) (moment : ℕ) (reply : Option Reply)
      → Visit

abbrev pub visited : Visit → ℕ
visited (Absent server) = server
visited (Stopped server) = server
visited (Rested server) = server
visited (Probed server came moment reply) = server

-- whether a visit sent a probe to this server
abbrev pub is_probe : ℕ → Visit → Bool
is_probe server (Absent at) = false
is_probe server (Stopped at) = false
is_probe server (Rested at) = false
is_probe server (Probed at came moment reply) = is_counted came && (at == server)

-- how often this server was probed
abbrev pub probes_in : ℕ → List Visit → ℕ
probes_in server visits = count_by (is_probe server) visits

-- whether memory ran out in a visit
abbrev pub ran_out : Visit → Bool
ran_out (Absent server) = false
ran_out (Stopped server) = false
ran_out (Rested server) = false
ran_out (Probed server came moment reply) = is_err came

-- whether memory ran out in a probe, if one was sent
abbrev pub is_short : Option ProbeEnd → Bool
is_short None = false
is_short (Some probe) = is_err probe.came

module _ {H L C : Type 0} (ghosts : BackendGhosts H L C) where
  -- the prober was due at the round's moment, the health granted the right to probe its server,
  -- and it was probed once: the links have the probe, one more moment was read, and what the prober
  -- asks for was recorded
  pub record IsProbed (moment : ℕ) (old : Backend H L C) (server : ℕ)
      (came : Result Outcome ExchangeNoMemory) (later : ℕ) (reply : Option Reply)
      (new : Backend H L C) : Type 0 where
    pub prober : Prober
    pub has : prober_of old.probers server ≡ Some prober
    pub due : IsDue prober.stage moment
    pub right : ghosts.grants old.health server
    pub probe : WasProbed ghosts.exchanges old.links server came new.links
    pub spent : (came ≡ Ok outcome.Spent) ↔ (ghosts.probed old.links server ≡ most_sends)
    pub counted : (at : ℕ) → ghosts.probed new.links at
        ≡ ghosts.probed old.links at + part_of (is_counted came) server at
    pub read : ghosts.reads old.clock later new.clock
    pub recorded : IsRecorded ghosts.steps old.health
        server (op_asked (asked_after (probed_of came))) reply
        new.health
    pub others : new ≡ record old {
      health = new.health;
      links = new.links;
      clock = new.clock;
      probers = with_slot old.probers server (slot_after (sent prober) later (probed_of came));
    }

  -- one visit of a round at this moment
  abbrev pub IsVisit : ℕ → Backend H L C → Visit → Backend H L C → Type 0
  IsVisit moment old (Absent server) new = (prober_of old.probers server ≡ None) × (new ≡ old)
  IsVisit moment old (Stopped server) new = IsStopped ghosts.steps old server new
  IsVisit moment old (Rested server) new = IsRested ghosts.grants moment old server new
  IsVisit moment old (Probed server came later reply) new =
      IsProbed moment old server came later reply new

  -- a round, in which memory ran out or did not
  pub record IsRound (old : Backend H L C) (short : Bool) (new : Backend H L C) : Type 0 where
    pub moment : ℕ
    pub clock : C
    pub read : ghosts.reads old.clock moment clock
    pub visits : List Visit
    pub each : Gains (IsVisit moment)
        (record old { clock = clock; probers = begun_at moment old.probers }) visits new
    pub servers : map visited visits ≡ numbers_below (length old.probers.slots)
    pub probes : (server : ℕ)
        → ghosts.probed new.links server ≡ ghosts.probed old.links server + probes_in server visits
    pub memory : short ≡ list_any ran_out visits

  -- a round began at this moment, at which each server that was marked got its prober
  pub record IsBegun (old : Backend H L C) (moment : ℕ) (new : Backend H L C) : Type 0 where
    pub read : ghosts.reads old.clock moment new.clock
    pub others : new ≡ record old {
      clock = new.clock;
      probers = begun_at moment old.probers;
    }

  -- a server was visited, and memory ran out or did not
  pub record IsVisited (moment : ℕ) (old : Backend H L C) (server : ℕ) (short : Bool)
      (new : Backend H L C) : Type 0 where
    pub visit : Visit
    pub at : visited visit ≡ server
    pub is : IsVisit moment old visit new
    pub memory : short ≡ ran_out visit

  -- the first `count` servers were visited, in number order
  pub record AreVisited (moment : ℕ) (old : Backend H L C) (count : ℕ) (short : Bool)
      (new : Backend H L C) : Type 0 where
    pub visits : List Visit
    pub each : Gains (IsVisit moment) old visits new
    pub servers : map visited visits ≡ numbers_below count
    pub memory : short ≡ list_any ran_out visits

  -- this probe of a visit of this server, if it sent one: what came of it, how the health replied,
  -- and how often the server was probed then
  abbrev pub IsProbeOf : ℕ → Visit → Option ProbeEnd → Backend H L C → Type 0
  IsProbeOf server visit None new = ran_out visit ≡ false
  IsProbeOf server visit (Some probe) new = (moment : ℕ)
      × (visit ≡ Probed server probe.came moment probe.reply) × (probe.server ≡ server)
      × (probe.probes ≡ ghosts.probed new.links server)

  -- a server was visited, and this probe was sent, if one was
  pub record IsVisitedBy (moment : ℕ) (old : Backend H L C) (server : ℕ)
      (probe : Option ProbeEnd) (new : Backend H L C) : Type 0 where
    pub visit : Visit
    pub at : visited visit ≡ server
    pub is : IsVisit moment old visit new
    pub probed : IsProbeOf server visit probe new

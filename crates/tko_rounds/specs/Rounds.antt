-- A round of an event-driven worker: at one moment each server that was marked gets its prober;
-- then for each server, in number order, what came of its probe is taken, and the next one is sent
-- where it is due.
use Rattle.std.specs.Prelude.{◌≡◌, ◌≢◌, ◌<◌, ◌+◌, ◌==◌, ◌&&◌, ℕ, Bool, true, false, List, length, map, min, count_by, slice_set, Option, Some, None}
use Rattle.std.specs.List.{list_any}
use Rattle.tko_model.specs.declared.mark.Reply.{Reply}
use Rattle.tko_model.specs.Records.{Gains}
use Rattle.tko_text.specs.declared.request.Request.TheVariants.{Version}
use Rattle.tko_pipe.specs.declared.waiter.Asker.TheVariants.{Probe}
use Rattle.tko_pipe.specs.Pipes.{pushing}
use Rattle.tko_mux.specs.declared.asking.Came.{Came}
use Rattle.tko_mux.specs.Awaits.{no_memory}
use Rattle.tko_mux.specs.Lines.{IsLinePushed, LineState}
use Rattle.tko_mux.specs.Muxes.{IsOnLine}
use Rattle.tko_health.specs.declared.health.Health.{Ghosts as HealthGhosts}
use Rattle.tko_links.specs.Links.{part_of}
use Rattle.tko_pools.specs.Configs.{numbers_below}
use Rattle.tko_prober.specs.declared.backend.Backend.{Backend}
use Rattle.tko_prober.specs.declared.prober.Prober.{Prober}
use Rattle.tko_prober.specs.Halves.{IsOut, IsPassed, IsProbeSent, IsResult}
use Rattle.tko_prober.specs.Probers.{AreQuiet, ProbersState, begun_at}
use Rattle.tko_rounds.specs.Probes.{IsNoneOut, IsOneOut, ProbesState, count_of, is_counted_probe, outs, probed_of_came, with_out}

-- what a round works on: the time limit of each connection; the health of the servers and their
-- probers; the lines to the servers; what came for the probe of each and was not fetched yet; and
-- what is known of the probes
pub record RoundState (H L C : Type 0) : Type 0 where
  pub limit : ℕ
  pub backend : Backend H L C
  pub lines : List LineState
  pub came : ℕ → Option Came
  pub probes : ProbesState

-- what came of a probe, and how the health replied to what was recorded of it, if anything was
pub record ProbeTaking : Type 0 where
  pub came : Came
  pub reply : Option Reply

-- what a round then did at a server: its probe is still out; no probe was sent; one was sent; or
-- memory ran out for it, so that it failed
pub data ProbeNext : Type 0 where
  Underway : ProbeNext
  Passed : ProbeNext
  Pushed : ProbeNext
  Lost : ProbeNext

-- what a round did at a server
pub record EventVisit : Type 0 where
  pub server : ℕ
  pub taken : Option ProbeTaking
  pub next : ProbeNext

abbrev pub event_visited : EventVisit → ℕ
event_visited visit = visit.server

-- whether what was taken at a server is what came of a probe of this one, and counts
abbrev pub took : ℕ → ℕ → Option ProbeTaking → Bool
took server at None = false
took server at (Some taken) = is_counted_probe taken.came && (at == server)

-- how many probes of this server ended in these visits
abbrev pub probes_ended_in : ℕ → List EventVisit → ℕ
probes_ended_in server visits = count_by (λ visit. took server visit.server visit.taken) visits

-- whether memory ran out for the probe of a visit
abbrev pub is_lost : ProbeNext → Bool
is_lost Underway = false
is_lost Passed = false
is_lost Pushed = false
is_lost Lost = true

abbrev pub event_ran_out : EventVisit → Bool
event_ran_out visit = is_lost visit.next

-- no prober is at work or going to be, and no probe is out
pub record HasNoProbes (probers : ProbersState) (probes : ProbesState) : Type 0 where
  pub quiet : AreQuiet probers
  pub none : outs probes ≡ 0

-- each server that was marked has a prober that begins at this moment
abbrev pub begun_round : {H L C : Type 0} → ℕ → RoundState H L C → RoundState H L C
begun_round moment state = record state {
  backend = record state.backend { probers = begun_at moment state.backend.probers };
}

-- a server that a round visits: it has a count, a line and a health
pub record IsRoundServer {H L C : Type 0} (servers : H → ℕ) (state : RoundState H L C)
    (server : ℕ) : Type 0 where
  pub within : server < length state.probes.out
  pub line : server < length state.lines
  pub health : server < servers state.backend.health

-- nothing came for the probe of this server, and all stays
pub record IsProbeAwaited {H L C : Type 0} (old : RoundState H L C) (server : ℕ)
    (new : RoundState H L C) : Type 0 where
  pub none : old.came server ≡ None
  pub came : (at : ℕ) → new.came at ≡ old.came at
  pub others : new ≡ record old { came = new.came }

-- no probe of this server is out, or nothing came for it
pub data NothingCame {H L C : Type 0} (old : RoundState H L C) (server : ℕ)
    (new : RoundState H L C) : Type 0 where
  unsent : IsNoneOut old.probes server → new ≡ old → NothingCame old server new
  awaited : IsOneOut old.probes server → IsProbeAwaited old server new → NothingCame old server new

module _ {H L C : Type 0} (health : HealthGhosts H) where
  -- a probe came to this, which is recorded as the prober that sent it asks; if that was stopped or
  -- replaced since, nothing is recorded
  pub data HasProbeCome (moment : ℕ) (old : Backend H L C) (server : ℕ) (it : ProbeTaking)
      (new : Backend H L C) : Type 0 where
    asked : (prober : Prober) → IsOut old.probers server prober
        → IsResult health.steps moment old server prober (probed_of_came it.came) it.reply new
        → HasProbeCome moment old server it new
    unasked : ((prober : Prober) → ¬ IsOut old.probers server prober) → it.reply ≡ None
        → new ≡ old → HasProbeCome moment old server it new

  -- what came of the probe of this server was taken and recorded; it is out no more, and counts by
  -- what it came to
  pub record IsProbeTaken (moment : ℕ) (old : RoundState H L C) (server : ℕ) (it : ProbeTaking)
      (new : RoundState H L C) : Type 0 where
    pub came : old.came server ≡ Some it.came
    pub left : new.came server ≡ None
    pub same : (at : ℕ) → at ≢ server → new.came at ≡ old.came at
    pub has_come : HasProbeCome moment old.backend server it new.backend
    pub counted : (at : ℕ) → count_of new.probes at
        ≡ count_of old.probes at + part_of (is_counted_probe it.came) server at
    pub counts : length new.probes.counts ≡ length old.probes.counts
    pub out : new.probes.out ≡ slice_set old.probes.out server false
    pub others : new ≡ record old {
      backend = new.backend;
      came = new.came;
      probes = new.probes;
    }

  -- what came of the probe of a server, if one is out and something came, was taken
  abbrev pub TakesProbe : ℕ → RoundState H L C → ℕ → Option ProbeTaking → RoundState H L C → Type 0
  TakesProbe moment old server None new = NothingCame old server new
  TakesProbe moment old server (Some it) new =
      IsOneOut old.probes server × IsProbeTaken moment old server it new

  -- a probe of this server is due, by a right that the health granted, and is put on its line,
  -- where its response is due then
  pub record IsProbePushed (moment due : ℕ) (old : RoundState H L C) (server : ℕ)
      (new : RoundState H L C) : Type 0 where
    pub free : IsNoneOut old.probes server
    pub sent : IsProbeSent health.grants moment old.backend server new.backend
    pub line : IsOnLine (λ was it. IsLinePushed old.limit was (pushing Probe due Version) it)
        old.lines server new.lines
    pub others : new ≡ record old {
      backend = new.backend;
      lines = new.lines;
      probes = with_out server true old.probes;
    }

  -- a probe of this server is due, and memory ran out for it: it failed, and was not sent
  pub record IsProbeLost (moment : ℕ) (old : RoundState H L C) (server : ℕ) (new : RoundState H L C)
      : Type 0 where
    pub free : IsNoneOut old.probes server
    pub mid : Backend H L C
    pub sent : IsProbeSent health.grants moment old.backend server mid
    pub reply : Option Reply
    pub failed : HasProbeCome moment mid server
        (record { came = no_memory; reply = reply }) new.backend
    pub others : new ≡ record old { backend = new.backend }

  -- a probe is sent exactly if none is out, one is due and the health grants the right; where it
  -- denies that, the prober is stopped
  abbrev pub IsProbeNext : ℕ → ℕ → RoundState H L C → ℕ → ProbeNext → RoundState H L C → Type 0
  IsProbeNext moment due old server Underway new = IsOneOut old.probes server × (new ≡ old)
  IsProbeNext moment due old server Passed new = IsNoneOut old.probes server
      × IsPassed health.steps health.grants moment old.backend server new.backend
      × (new ≡ record old { backend = new.backend })
  IsProbeNext moment due old server Pushed new = IsProbePushed moment due old server new
  IsProbeNext moment due old server Lost new = IsProbeLost moment old server new

  -- one visit of a round at this moment, in which what is sent is due then
  pub record IsEventVisit (moment due : ℕ) (old : RoundState H L C) (visit : EventVisit)
      (new : RoundState H L C) : Type 0 where
    pub mid : RoundState H L C
    pub takes : TakesProbe moment old visit.server visit.taken mid
    pub sends : IsProbeNext moment due mid visit.server visit.next new

  -- what came of the probe of this server was taken, if anything did
  pub record HasProbeTaken (moment : ℕ) (old : RoundState H L C) (server : ℕ)
      (new : RoundState H L C) : Type 0 where
    pub it : Option ProbeTaking
    pub takes : TakesProbe moment old server it new

  -- the next probe of this server was sent or not, or memory ran out for it
  pub record HasNext (moment due : ℕ) (old : RoundState H L C) (server : ℕ) (short : Bool)
      (new : RoundState H L C) : Type 0 where
    pub it : ProbeNext
    pub sends : IsProbeNext moment due old server it new
    pub memory : short ≡ is_lost it

  -- a server was visited, and memory ran out for its probe or did not
  pub record IsEventVisited (moment due : ℕ) (old : RoundState H L C) (server : ℕ) (short : Bool)
      (new : RoundState H L C) : Type 0 where
    pub visit : EventVisit
    pub at : visit.server ≡ server
    pub is : IsEventVisit moment due old visit new
    pub memory : short ≡ event_ran_out visit

  -- the first `count` servers were visited, in number order
  pub record AreEventVisited (moment due : ℕ) (old : RoundState H L C) (count : ℕ) (short : Bool)
      (new : RoundState H L C) : Type 0 where
    pub visits : List EventVisit
    pub each : Gains (IsEventVisit moment due) old visits new
    pub servers : map event_visited visits ≡ numbers_below count
    pub memory : short ≡ list_any event_ran_out visits

  -- how many servers a round visits: those that have a count, a line and a health
  abbrev pub round_servers : RoundState H L C → ℕ
  round_servers state = min (length state.probes.out)
      (min (length state.lines) (health.servers state.backend.health))

  -- a round at this moment, in which memory ran out for a probe or did not. What it sends is due
  -- then, and the count of a server's probes rises by those that ended
  pub record IsEventRound (moment due : ℕ) (old : RoundState H L C) (short : Bool)
      (new : RoundState H L C) : Type 0 where
    pub visits : List EventVisit
    pub each : Gains (IsEventVisit moment due) (begun_round moment old) visits new
    pub servers : map event_visited visits ≡ numbers_below (round_servers old)
    pub counts : (server : ℕ)
        → count_of new.probes server ≡ count_of old.probes server + probes_ended_in server visits
    pub memory : short ≡ list_any event_ran_out visits

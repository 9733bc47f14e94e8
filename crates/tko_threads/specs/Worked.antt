-- What a worker does between the seat that it takes and the one that it gives back: it serves one
-- client after another, runs rounds while there is none, and settles what it counted.
use Rattle.std.specs.Prelude.{◌≡◌, ℕ, zero, suc, ◌+◌, ◌-◌, ◌||◌, Bool, List, Result, length}
use Rattle.tko_model.specs.Records.{Gains}
use Rattle.tko_bytes.specs.Numbers.{capped}
use Rattle.tko_io.specs.declared.io.Inlet.{Ghosts as InletGhosts}
use Rattle.tko_io.specs.declared.io.Outlet.{Ghosts as OutletGhosts}
use Rattle.tko_prober.specs.Ghosts.{BackendGhosts}
use Rattle.tko_model.specs.Numbers.{no_counts, saturated}
use Rattle.tko_model.specs.declared.counts.Counts.{Counts}
use Rattle.tko_model.specs.declared.kind.Kind.TheVariants as kind
use Rattle.tko_desk.specs.declared.book.Share.{Share}
use Rattle.tko_reply.specs.Counting.{counted}
use Rattle.tko_reply.specs.declared.parts.Parts.{Parts}
use Rattle.tko_session.specs.Effects.{effects_of}
use Rattle.tko_session.specs.Events.{Rounded}
use Rattle.tko_session.specs.declared.step.Report.{Report}
use Rattle.tko_session.specs.Ends.{SessionEnds}
use Rattle.tko_session.specs.Served.{Serving, context, serving}
use Rattle.tko_session.specs.declared.fault.SessionFault.{SessionFault}
use Rattle.tko_threads.specs.Accounts.{IsGiven}
use Rattle.tko_threads.specs.Reports.{counted_session, no_report, with_memory}
use Rattle.tko_threads.specs.declared.pooling.Member.{Member}
use Rattle.tko_threads.specs.declared.report.WorkerReport.{WorkerReport}
use Rattle.tko_threads.specs.declared.working.WorkerParts.{WorkerParts}
use Rattle.tko_threads.specs.declared.working.Working.{Working}

-- what the ends of the clients, the health, the links and the clock of a worker show
pub record WorkerGhosts (I O H L C : Type 0) : Type 1 where
  pub serving : Serving I O (Parts H L Counts C)
  pub backend : BackendGhosts H L C

-- its trails are what it counts
abbrev pub worker_ghosts : {I O H L C : Type 0} → InletGhosts I → OutletGhosts O
    → BackendGhosts H L C → WorkerGhosts I O H L C
worker_ghosts inlet outlet backend = record {
  serving = serving inlet outlet
      (effects_of (record {
        backend = backend;
        records = λ old event new. new ≡ counted old event;
      }));
  backend = backend;
}

-- a worker at a moment: what it works over, what it met, and how many probes its account has
pub record AtWork (H L C : Type 0) : Type 0 where
  pub parts : Parts H L Counts C
  pub report : WorkerReport
  pub probes : ℕ

abbrev pub at_work : {H L C W : Type 0} → Working H L C W → AtWork H L C
at_work working =
    record { parts = working.parts; report = working.report; probes = working.probes }

-- with this health it begins to work
abbrev pub at_start : {S H L C : Type 0} → H → WorkerParts S L C → AtWork H L C
at_start health given = record {
  parts = record {
    backend = record {
      health = health;
      links = given.links;
      probers = given.probers;
      clock = given.clock;
    };
    trails = no_counts;
    config = given.config;
  };
  report = no_report;
  probes = 0;
}

-- the same, with the share of its account
pub record WithShare (H L C : Type 0) : Type 0 where
  pub work : AtWork H L C
  pub share : Share

abbrev pub with_share : {H L C : Type 0} → AtWork H L C → Share → WithShare H L C
with_share work share = record { work = work; share = share }

-- the same, with the share of its account
abbrev pub begun_with : {S H L C : Type 0} → H → WorkerParts S L C → WithShare H L C
begun_with health given = with_share (at_start health given) given.account.share.now

-- how many probes were sent to the first servers
abbrev pub probes_below : (ℕ → ℕ) → ℕ → ℕ
probes_below probed zero = 0
probes_below probed (suc n) = probes_below probed n + probed n

-- what a worker does: a client's session, which ended so, after which its account had room for all
-- that was counted or had not; or a round, in which memory ran out or did not
pub data WorkerEvent : Type 0 where
  Served : Result Report SessionFault → Bool → WorkerEvent
  Rested : Bool → WorkerEvent

module _ {H L C : Type 0} (ghosts : BackendGhosts H L C) where
  -- how many probes were sent to the servers
  abbrev pub probes_sent_to_all : Parts H L Counts C → ℕ
  probes_sent_to_all parts = capped
      (probes_below (ghosts.probed parts.backend.links) (length parts.config.addresses))

  -- what the account lacks: what was counted since it was settled, and the probes since then
  abbrev pub unsettled : AtWork H L C → Counts
  unsettled at = saturated kind.Probe (probes_sent_to_all at.parts - at.probes) at.parts.trails

  -- all of that was taken for the account, which was full for a kind or not
  pub record IsWorkSettled (old : AtWork H L C) (full : Bool) (new : AtWork H L C) : Type 0 where
    pub parts : new.parts ≡ record old.parts { trails = no_counts }
    pub report : new.report
        ≡ record old.report { ledger_full = old.report.ledger_full || full }
    pub probes : new.probes ≡ probes_sent_to_all old.parts

  -- what the account lacked was taken for it, and its share was given that, each kind for which the
  -- ledger was not full
  pub record HasSettled (old : WithShare H L C) (full : Bool) (new : WithShare H L C) : Type 0 where
    pub taken : IsWorkSettled old.work full new.work
    pub given : IsGiven (unsettled old.work) old.share full new.share

  -- a round was run, in which memory ran out or did not
  pub record IsRoundRun (old : AtWork H L C) (short : Bool) (new : AtWork H L C) : Type 0 where
    pub round : Rounded ghosts short old.parts new.parts
    pub report : new.report ≡ with_memory old.report short
    pub probes : new.probes ≡ old.probes

module _ {I O H L C : Type 0} (ghosts : WorkerGhosts I O H L C) where
  -- a client's session ended so, and was counted
  pub record IsSession (old : AtWork H L C) (ended : Result Report SessionFault)
      (new : AtWork H L C) : Type 0 where
    pub reader : I
    pub reader_left : I
    pub writer : O
    pub writer_left : O
    pub ends : SessionEnds ghosts.serving (context reader writer old.parts) ended
        (context reader_left writer_left new.parts)
    pub report : new.report ≡ counted_session old.report ended
    pub probes : new.probes ≡ old.probes

  -- a client's session ended so, and then the account was settled
  pub record IsSessionServed (old : WithShare H L C) (ended : Result Report SessionFault)
      (full : Bool) (new : WithShare H L C) : Type 0 where
    pub mid : AtWork H L C
    pub session : IsSession old.work ended mid
    pub settled : HasSettled ghosts.backend (with_share mid old.share) full new

  abbrev pub IsWork : WithShare H L C → WorkerEvent → WithShare H L C → Type 0
  IsWork old (Served ended full) new = IsSessionServed old ended full new
  IsWork old (Rested short) new =
      IsRoundRun ghosts.backend old.work short new.work × (new.share ≡ old.share)

  -- a worker did this, and nothing else
  pub record Works (old new : WithShare H L C) : Type 0 where
    pub events : List WorkerEvent
    pub gains : Gains IsWork old events new

  -- a worker took a seat, with which it began; did this, and nothing else, to the health of the
  -- servers and to its share; settled its account once more; and left, with the seat and the report
  -- that it returned
  pub record HasWorked {S P : Type 0} (begins : H → Type 0) (leaves : H → P → Type 0)
      (given : WorkerParts S L C) (returned : P × WorkerReport) : Type 0 where
    pub health : H
    pub begun : begins health
    pub events : List WorkerEvent
    pub last : WithShare H L C
    pub works : Gains IsWork (begun_with health given) events last
    pub end : WithShare H L C
    pub full : Bool
    pub settled : HasSettled ghosts.backend last full end
    pub left : leaves end.work.parts.backend.health returned.0
    pub report : returned.1 ≡ end.work.report

-- the worker of a pool's member did so over the member's own seating and parts, from its own seat
abbrev pub MemberWorked : {I O S P H L C R : Type 0} → WorkerGhosts I O H L C
    → (S → P → H → Type 0) → (S → H → P → Type 0) → Member R P S L C → P × WorkerReport → Type 0
MemberWorked ghosts begins leaves member returned =
    HasWorked ghosts (begins member.parts.seating.now member.idle) (leaves member.parts.seating.now)
    member.parts returned

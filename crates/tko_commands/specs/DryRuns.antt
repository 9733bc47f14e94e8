-- What a dry run starts with, what it reads and writes, and why it fails.
use Rattle.std.specs.Prelude.{◌≡◌, ◌<◌, ℕ, Bool, true, false, Some, List, [], length, replicate, slice_index, string_bytes}
use Rattle.tko_session.specs.Ends.{IsCalm, SessionStops}
use Rattle.tko_session.specs.declared.fault.SessionFault.{SessionFault}
use Rattle.tko_session.specs.declared.fault.SessionFault.TheVariants as session_fault
use Rattle.tko_model.specs.Settings.{Settings}
use Rattle.tko_model.specs.Tracker.{Tracker, opened}
use Rattle.tko_route.specs.declared.attempt.Attempt.{Attempt}
use Rattle.tko_links.specs.declared.scripted.Script.{Script}
use Rattle.tko_health.specs.Health.{OneThread, IsGranted, IsTrackerStep}
use Rattle.tko_links.specs.Scripted.{ScriptedState, IsPlayed}
use Rattle.tko_prober.specs.declared.delays.Delays.{Delays}
use Rattle.tko_io.specs.declared.clock.FrozenClock.{FrozenClock}
use Rattle.tko_reply.specs.declared.parts.Parts.{Parts}
use Rattle.tko_session.specs.declared.step.Report.{Report}
use Rattle.tko_io.specs.declared.io.Inlet.{Ghosts as InletGhosts}
use Rattle.tko_io.specs.declared.io.Outlet.{Ghosts as OutletGhosts}
use Rattle.tko_session.specs.Effects.{effects_of}
use Rattle.tko_session.specs.Events.{Effects}
use Rattle.tko_io.specs.Clocks.{IsFrozen}
use Rattle.tko_prober.specs.Probers.{no_probers}
use Rattle.tko_session.specs.Served.{Served, context, serving}
use Rattle.tko_reply.specs.TrailEvents.{Keeps}
use Rattle.tko_reply.specs.Ghosts.{PartsGhosts}
use Rattle.tko_pools.specs.Configs.{Configuration}
use Rattle.tko_pools.specs.declared.fault.ConfigFault.{ConfigFault}
use Rattle.tko_commands.specs.Configured.{IsConfigured, IsFlawed}
use Rattle.tko_commands.specs.Grouped.{grouped}
use Rattle.tko_commands.specs.OutsideRanges.{IsFirstOutside}
use Rattle.tko_commands.specs.declared.fault.Fault.{Fault}
use Rattle.tko_commands.specs.declared.fault.Fault.TheVariants as fault
use Rattle.tko_commands.specs.declared.outside_range.OutsideRange.{OutsideRange}
use Rattle.tko_options.specs.declared.dry_options.DryOptions.{DryOptions}
use Rattle.tko_options.specs.Trackers.{dry_settings}
use Rattle.tko_commands.specs.Outcomes.{AllAsk, first_bad, words_of}
use Rattle.tko_commands.specs.Texts.{WritesFront, trails_text}

-- a tracker of one thread, scripted servers, the trails so far, and a clock that stands still at 0
abbrev pub DryParts : Type 0
DryParts = Parts OneThread ScriptedState (List (List Attempt)) FrozenClock

-- the words of the list of outcomes
abbrev pub words_in : DryOptions → List (List ℕ)
words_in options = words_of (string_bytes options.outcomes)

-- how long the first probe of a server waits in `dry`, in milliseconds
abbrev pub dry_first_delay : ℕ
dry_first_delay = 10000

-- how long any probe waits at most in `dry`, in milliseconds
abbrev pub dry_greatest_delay : ℕ
dry_greatest_delay = 60000

-- the delays of probes that no option names
pub record AreDefaultDelays (delays : Delays) : Type 0 where
  pub first : delays.first ≡ dry_first_delay
  pub greatest : delays.greatest ≡ dry_greatest_delay

-- parts before the first request, over this configuration: a tracker used by thread 0, these
-- scripts, nothing sent or probed, no trail, and no server that is going to be probed
pub record AreFresh (scripts : List Script) (config : Configuration) (tracker : Tracker)
    (parts : DryParts) : Type 0 where
  pub health : parts.backend.health ≡ record { tracker = tracker; thread = 0 }
  pub links : parts.backend.links ≡ record {
    scripts = scripts;
    sends = replicate (length config.addresses) 0;
    probes = replicate (length config.addresses) 0;
    requests = [];
  }
  pub trails : parts.trails ≡ []
  pub over : parts.config ≡ config
  pub delays : Delays
  pub by_default : AreDefaultDelays delays
  pub probers : parts.backend.probers ≡ no_probers delays (length config.addresses)

-- the settings of the tracker of a configuration's servers
abbrev pub dry_tracker : DryOptions → Configuration → Settings
dry_tracker options config = grouped config (dry_settings options (length config.addresses))

-- the parts that a dry run begins with: the configuration that the options name, a new tracker of
-- its servers, and the scripts that the list of outcomes asks for
pub record BeginsDryRun (options : DryOptions) (parts : DryParts) : Type 0 where
  pub scripts : List Script
  pub asked : AllAsk (words_in options) scripts
  pub config : IsConfigured options parts.config
  pub fresh : AreFresh scripts parts.config
      (opened (dry_tracker options parts.config)) parts

-- every word of the list is good, the JSON is no configuration, and this is what is wrong with it
pub record IsNoConfig (options : DryOptions) (cause : ConfigFault) : Type 0 where
  pub scripts : List Script
  pub asked : AllAsk (words_in options) scripts
  pub flawed : IsFlawed options cause

-- every word of the list is good, so is the configuration, and this is the first setting that is
-- outside its range
pub record IsOutside (options : DryOptions) (outside : OutsideRange) : Type 0 where
  pub scripts : List Script
  pub asked : AllAsk (words_in options) scripts
  pub config : Configuration
  pub configured : IsConfigured options config
  pub first : IsFirstOutside (dry_settings options (length config.addresses)) outside

-- the number of sends to a server
abbrev pub scripted_sends : ScriptedState → ℕ → ℕ
scripted_sends links server = slice_index links.sends server

-- the number of probes of a server
abbrev pub probes_of : ScriptedState → ℕ → ℕ
probes_of links server = slice_index links.probes server

-- what these parts record
abbrev pub dry_ghosts : PartsGhosts OneThread ScriptedState (List (List Attempt)) FrozenClock
dry_ghosts = record {
  backend = record {
    steps = IsTrackerStep;
    grants = IsGranted;
    exchanges = IsPlayed;
    sent = scripted_sends;
    probed = probes_of;
    reads = IsFrozen;
  };
  records = Keeps;
}

-- the effects of a session on these parts
abbrev pub dry_effects : Effects DryParts
dry_effects = effects_of dry_ghosts

-- the trails' lines went out if they are asked for, and else nothing
abbrev pub TrailsGo : {O : Type 0} → (O → List ℕ → O → Type 0) → Bool → List (List Attempt)
    → O → O → Type 0
TrailsGo takes true trails from to = takes from (trails_text 1 trails) to
TrailsGo takes false trails from to = to ≡ from

-- a session over the parts that the options name came to the end of its input, and after its
-- replies the lines of its trails went out, if they are asked for
pub record IsDry {I O : Type 0} (inlet : InletGhosts I) (outlet : OutletGhosts O)
    (options : DryOptions) (old new : I × O) : Type 0 where
  pub before : DryParts
  pub after : DryParts
  pub report : Report
  pub middle : O
  pub begins : BeginsDryRun options before
  pub served : Served (serving inlet outlet dry_effects)
      (context old.0 old.1 before) report (context new.0 middle after)
  pub trails : TrailsGo outlet.takes options.trail after.trails middle new.1

module _ {I O : Type 0} (inlet : InletGhosts I) (outlet : OutletGhosts O)
    (options : DryOptions) where
  -- a session over the parts that the options name ended by this fault, and then nothing was
  -- written
  pub record SessionFails (cause : SessionFault) (old new : I × O) : Type 0 where
    pub before : DryParts
    pub after : DryParts
    pub begins : BeginsDryRun options before
    pub stops : SessionStops (serving inlet outlet dry_effects)
        (context old.0 old.1 before) cause (context new.0 new.1 after)

  -- a session over the parts that the options name came to the end of its input, no end failed, and
  -- the trails are asked for, these
  pub record OwesTrails (old middle : I × O) (trails : List (List Attempt)) : Type 0 where
    pub before : DryParts
    pub after : DryParts
    pub report : Report
    pub begins : BeginsDryRun options before
    pub served : Served (serving inlet outlet dry_effects)
        (context old.0 old.1 before) report (context middle.0 middle.1 after)
    pub calm : IsCalm (serving inlet outlet dry_effects)
        (context old.0 old.1 before) (context middle.0 middle.1 after)
    pub trails_are : after.trails ≡ trails
    pub asked : options.trail ≡ true

  -- the output failed after a part of the trails' lines
  pub record TrailsFail (old new : I × O) : Type 0 where
    pub middle : O
    pub trails : List (List Attempt)
    pub owes : OwesTrails old (new.0, middle) trails
    pub part : WritesFront outlet.takes (trails_text 1 trails) middle new.1
    pub failed : outlet.failures middle < outlet.failures new.1

  -- where the output failed: in the replies, or in the trails' lines
  pub data OutputFails (old new : I × O) : Type 0 where
    in_replies : (count : ℕ) → SessionFails (session_fault.Write count) old new
        → OutputFails old new
    in_trails : TrailsFail old new → OutputFails old new

  -- where memory ran out: before anything was read or written, in the session, or before the first
  -- of the trails' lines was written
  pub data MemoryFails (old new : I × O) : Type 0 where
    at_first : new.0 ≡ old.0 → new.1 ≡ old.1 → MemoryFails old new
    in_session : SessionFails session_fault.Memory old new → MemoryFails old new
    before_trails : (trails : List (List Attempt)) → OwesTrails old new trails → MemoryFails old new

  -- why a dry run fails: the options name no parts, and then nothing was read or written; the
  -- session ended by a fault, and then nothing more was written; the output failed in the trails'
  -- lines; or memory ran out
  abbrev pub DryFails : I × O → I × O → Fault → Type 0
  DryFails old new (fault.Outcomes number) =
      (first_bad (words_in options) ≡ Some number) × (new.0 ≡ old.0) × (new.1 ≡ old.1)
  DryFails old new (fault.Config cause) =
      IsNoConfig options cause × (new.0 ≡ old.0) × (new.1 ≡ old.1)
  DryFails old new (fault.Settings outside) =
      IsOutside options outside × (new.0 ≡ old.0) × (new.1 ≡ old.1)
  DryFails old new fault.Read = SessionFails session_fault.Read old new
  DryFails old new fault.Write = OutputFails old new
  DryFails old new fault.LineTooLong = SessionFails session_fault.LineTooLong old new
  DryFails old new fault.Memory = MemoryFails old new
  DryFails old new (fault.Line number) = ⊥
  DryFails old new fault.Check = ⊥
  DryFails old new fault.ConfigFile = ⊥
  DryFails old new (fault.Against cause) = ⊥
  DryFails old new (fault.KeysFile unread) = ⊥
  DryFails old new (fault.Delays delays) = ⊥
  DryFails old new (fault.Listen cause) = ⊥
  DryFails old new (fault.Metrics cause) = ⊥
  DryFails old new fault.Accept = ⊥

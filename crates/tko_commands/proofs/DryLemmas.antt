-- What a dry run begins with and does.
use Rattle.std.proofs.Common.{◌≡◌, ◌<◌, ℕ, List, length, true, Option, refl, subst, sym}
use Rattle.std.proofs.lemmas.List.{length-replicate}
use Rattle.std.proofs.lemmas.List.FromFn.{length-map-range_with_len}
use Rattle.tko_model.specs.Tracker.{Tracker, opened}
use Rattle.tko_model.specs.declared.plain.OpenFault.{OpenFault}
use Rattle.tko_model.specs.declared.plain.OpenFault.TheVariants as open_fault
use Rattle.tko_model.specs.declared.settings.SettingsFault.{SettingsFault}
use Rattle.tko_links.specs.declared.scripted.Script.{Script}
use Rattle.tko_session.specs.declared.step.Report.{Report}
use Rattle.tko_io.specs.declared.io.Inlet.{Ghosts as InletGhosts}
use Rattle.tko_io.specs.declared.io.Outlet.{Ghosts as OutletGhosts}
use Rattle.tko_session.specs.declared.fault.SessionFault.{SessionFault}
use Rattle.tko_session.specs.declared.fault.SessionFault.TheVariants as session_fault
use Rattle.tko_session.specs.Ends.{IsCalm, SessionStops}
use Rattle.tko_session.specs.Served.{Served, context, serving}
use Rattle.tko_reply.specs.Answers.{Reaches}
use Rattle.tko_pools.specs.Configs.{Configuration, in_order}
use Rattle.tko_commands.specs.declared.fault.Fault.{Fault}
use Rattle.tko_commands.specs.declared.fault.Fault.TheVariants as fault
use Rattle.tko_commands.specs.declared.outside_range.OutsideRange.{OutsideRange}
use Rattle.tko_options.specs.declared.dry_options.DryOptions.{DryOptions}
use Rattle.tko_commands.specs.Configured.{ConfigOf, IsConfigured, IsUnset, NoConfig, scripted_names}
use Rattle.tko_options.specs.Trackers.{dry_settings}
use Rattle.tko_commands.specs.DryRuns.{AreFresh, BeginsDryRun, DryFails, DryParts, IsDry, IsOutside, TrailsGo, at_first, before_trails, dry_effects, dry_tracker, in_replies, in_session, in_trails, words_in}
use Rattle.tko_commands.specs.Grouped.{NoSettings}
use Rattle.tko_commands.specs.Faults.{fault_of_opening, fault_of_outcomes, fault_of_session}
use Rattle.tko_commands.specs.Outcomes.{AllAsk, RefusesOutcomes}
use Rattle.tko_commands.specs.OutsideRanges.{IsFirstOutside}
use Rattle.tko_commands.specs.Texts.{WritesFront, trails_text}
use Rattle.tko_commands.specs.declared.outcomes.OutcomesFault.{OutcomesFault}
use Rattle.tko_commands.specs.declared.outcomes.OutcomesFault.TheVariants as outcomes_fault

-- without a configuration there are as many servers as the options say
outside_alone : (options : DryOptions) (outside : OutsideRange) (scripts : List Script)
    → AllAsk (words_in options) scripts → IsUnset options outside → IsOutside options outside
outside_alone options outside scripts asked unset =
    let names = scripted_names options.servers in
    let count : length names ≡ options.servers = length-map-range_with_len _ 0 options.servers in
    let P : Option (List ℕ) → Type 0 = λ json. ConfigOf json options.servers (in_order names) in
    let Q : ℕ → Type 0 = λ n. IsFirstOutside (dry_settings options n) outside in
    record {
      scripts = scripts;
      asked = asked;
      config = in_order names;
      configured = record { named = subst P (sym unset.alone) refl };
      first = subst Q (sym count) unset.first;
    }

-- parts over the configuration that the options name
pub begun : (options : DryOptions) (scripts : List Script) (config : Configuration) (tracker : Tracker) (parts : DryParts)
    → AllAsk (words_in options) scripts → IsConfigured options config
    → tracker ≡ opened (dry_tracker options config)
    → AreFresh scripts config tracker parts
    → BeginsDryRun options parts
begun options scripts config tracker parts asked configured opens is =
    let P : Configuration → Type 0 = λ it. IsConfigured options it in
    let Q : Tracker → Type 0 = λ it. AreFresh scripts config it parts in
    let R : Configuration → Type 0 = λ it. AreFresh scripts it (opened (dry_tracker options it)) parts in
    record {
      scripts = scripts;
      asked = asked;
      config = subst P (sym is.over) configured;
      fresh = subst R (sym is.over) (subst Q opens is);
    }

-- the tracker, the links and the probers have the servers of the configuration
pub begun_reaches : (options : DryOptions) (parts : DryParts) → BeginsDryRun options parts
    → Reaches (λ health. length health.tracker.servers) (λ links. length links.sends) parts
begun_reaches options parts begun =
    record {
      health = rw begun.fresh.health (length-replicate (length parts.config.addresses) _);
      links = rw begun.fresh.links (length-replicate (length parts.config.addresses) 0);
      probers = rw begun.fresh.probers (length-replicate (length parts.config.addresses) _);
    }

module _ {I O : Type 0} (inlet : InletGhosts I) (outlet : OutletGhosts O) where
  -- a session over these parts and the printing of its trails are a dry run
  pub is_dry : (options : DryOptions) (old : I) (from : O) (new : I) (middle to : O) (before after : DryParts) (report : Report)
      → BeginsDryRun options before
      → Served (serving inlet outlet dry_effects) (context old from before) report (context new middle after)
      → TrailsGo outlet.takes options.trail after.trails middle to
      → IsDry inlet outlet options (old, from) (new, to)
  is_dry options old from new middle to before after report begun served went =
      record {
        before = before;
        after = after;
        report = report;
        middle = middle;
        begins = begun;
        served = served;
        trails = went;
      }

  -- the session ended before its input did
  pub session_failed : (options : DryOptions) (cause : SessionFault) (old : I) (from : O) (new : I) (to : O) (before after : DryParts)
      → BeginsDryRun options before
      → SessionStops (serving inlet outlet dry_effects) (context old from before) cause (context new to after)
      → DryFails inlet outlet options (old, from) (new, to) (fault_of_session cause)
  session_failed options session_fault.Read old from new to before after begun stops =
      record { before = before; after = after; begins = begun; stops = stops }
  session_failed options (session_fault.Write count) old from new to before after begun stops =
      in_replies count (record { before = before; after = after; begins = begun; stops = stops })
  session_failed options session_fault.LineTooLong old from new to before after begun stops =
      record { before = before; after = after; begins = begun; stops = stops }
  session_failed options session_fault.Memory old from new to before after begun stops =
      in_session (record { before = before; after = after; begins = begun; stops = stops })

  -- memory ran out before the first line of the trails
  pub no_lines : (options : DryOptions) (old : I) (from : O) (new : I) (to : O) (before after : DryParts) (report : Report)
      → BeginsDryRun options before
      → Served (serving inlet outlet dry_effects) (context old from before) report (context new to after)
      → IsCalm (serving inlet outlet dry_effects) (context old from before) (context new to after)
      → options.trail ≡ true
      → DryFails inlet outlet options (old, from) (new, to) fault.Memory
  no_lines options old from new to before after report begun served calm asked =
      before_trails after.trails (record {
        before = before;
        after = after;
        report = report;
        begins = begun;
        served = served;
        calm = calm;
        trails_are = refl;
        asked = asked;
      })

  -- the output failed in the lines of the trails
  pub trails_cut : (options : DryOptions) (old : I) (from : O) (new : I) (middle to : O) (before after : DryParts) (report : Report)
      → BeginsDryRun options before
      → Served (serving inlet outlet dry_effects) (context old from before) report (context new middle after)
      → IsCalm (serving inlet outlet dry_effects) (context old from before) (context new middle after)
      → options.trail ≡ true → WritesFront outlet.takes (trails_text 1 after.trails) middle to
      → outlet.failures middle < outlet.failures to
      → DryFails inlet outlet options (old, from) (new, to) fault.Write
  trails_cut options old from new middle to before after report begun served calm asked part failed =
      in_trails (record {
        middle = middle;
        trails = after.trails;
        owes = record {
          before = before;
          after = after;
          report = report;
          begins = begun;
          served = served;
          calm = calm;
          trails_are = refl;
          asked = asked;
        };
        part = part;
        failed = failed;
      })

  -- the list of outcomes has no scripts, so nothing was read or written
  pub not_listed : (options : DryOptions) (here : I × O) (cause : OutcomesFault) → RefusesOutcomes (words_in options) cause
      → DryFails inlet outlet options here here (fault_of_outcomes cause)
  not_listed options here (outcomes_fault.Word number) bad = (bad, refl, refl)
  not_listed options here outcomes_fault.Memory bad = at_first refl refl

  -- memory ran out before anything was read or written
  pub untouched : (options : DryOptions) (here : I × O) → DryFails inlet outlet options here here fault.Memory
  untouched options here = at_first refl refl

  -- the options name no configuration, so nothing was read or written
  pub not_configured : (options : DryOptions) (here : I × O) (scripts : List Script) (reason : Fault)
      → AllAsk (words_in options) scripts → NoConfig options reason
      → DryFails inlet outlet options here here reason
  not_configured options here scripts (fault.Config cause) asked flawed =
      (record { scripts = scripts; asked = asked; flawed = flawed }, refl, refl)
  not_configured options here scripts (fault.Settings outside) asked unset =
      (outside_alone options outside scripts asked unset, refl, refl)
  not_configured options here scripts fault.Memory asked none = at_first refl refl
  not_configured options here scripts fault.ConfigFile asked none = absurd none
  not_configured options here scripts (fault.Against cause) asked none = absurd none
  not_configured options here scripts (fault.KeysFile unread) asked none = absurd none
  not_configured options here scripts fault.Read asked none = absurd none
  not_configured options here scripts fault.Write asked none = absurd none
  not_configured options here scripts fault.LineTooLong asked none = absurd none
  not_configured options here scripts (fault.Outcomes number) asked none = absurd none
  not_configured options here scripts (fault.Line number) asked none = absurd none
  not_configured options here scripts fault.Check asked none = absurd none
  not_configured options here scripts (fault.Delays delays) asked none = absurd none
  not_configured options here scripts (fault.Listen cause) asked none = absurd none
  not_configured options here scripts (fault.Metrics cause) asked none = absurd none
  not_configured options here scripts fault.Accept asked none = absurd none

  -- there are no settings, so nothing was read or written
  pub not_set : (options : DryOptions) (here : I × O) (scripts : List Script) (config : Configuration) (reason : Fault)
      → AllAsk (words_in options) scripts → IsConfigured options config
      → NoSettings (dry_settings options (length config.addresses)) reason
      → DryFails inlet outlet options here here reason
  not_set options here scripts config (fault.Settings outside) asked configured first =
      let is : IsOutside options outside = record {
        scripts = scripts;
        asked = asked;
        config = config;
        configured = configured;
        first = first;
      } in
      (is, refl, refl)
  not_set options here scripts config fault.Memory asked configured none = at_first refl refl
  not_set options here scripts config fault.Read asked configured none = absurd none
  not_set options here scripts config fault.Write asked configured none = absurd none
  not_set options here scripts config fault.LineTooLong asked configured none = absurd none
  not_set options here scripts config (fault.Config cause) asked configured none = absurd none
  not_set options here scripts config fault.ConfigFile asked configured none = absurd none
  not_set options here scripts config (fault.Against cause) asked configured none = absurd none
  not_set options here scripts config (fault.KeysFile unread) asked configured none = absurd none
  not_set options here scripts config (fault.Outcomes number) asked configured none = absurd none
  not_set options here scripts config (fault.Line number) asked configured none = absurd none
  not_set options here scripts config fault.Check asked configured none = absurd none
  not_set options here scripts config (fault.Delays delays) asked configured none = absurd none
  not_set options here scripts config (fault.Listen cause) asked configured none = absurd none
  not_set options here scripts config (fault.Metrics cause) asked configured none = absurd none
  not_set options here scripts config fault.Accept asked configured none = absurd none

  -- the tracker could not be opened, so nothing was read or written; its settings are in their ranges
  pub not_opened : (options : DryOptions) (here : I × O) (cause : OpenFault)
      → ((name : SettingsFault) → cause ≡ open_fault.Settings name → ⊥)
      → DryFails inlet outlet options here here (fault_of_opening cause)
  not_opened options here (open_fault.Settings name) never = absurd (never name refl)
  not_opened options here open_fault.Memory never = at_first refl refl

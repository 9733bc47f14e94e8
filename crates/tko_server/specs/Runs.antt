-- What a server is started with, and why it ends.
use Rattle.std.specs.Prelude.{length}
use Rattle.tko_model.specs.declared.plain.OpenFault.{OpenFault}
use Rattle.tko_model.specs.declared.plain.OpenFault.TheVariants as opening
use Rattle.tko_model.specs.Settings.{Settings, with_servers}
use Rattle.tko_server.specs.declared.run_fault.ServerRunFault.{ServerRunFault}
use Rattle.tko_server.specs.declared.run_fault.ServerRunFault.TheVariants as run
use Rattle.tko_server.specs.declared.running.Options.{Options}

-- the settings of a server's tracker, which has the servers of the configuration
abbrev pub tracker_settings : Options → Settings
tracker_settings options =
    with_servers (length options.config.addresses) options.settings

-- why a server ends whose tracker can't be opened
abbrev pub run_fault_of_opening : OpenFault → ServerRunFault
run_fault_of_opening (opening.Settings fault) = run.Settings fault
run_fault_of_opening opening.Memory = run.Memory

-- the settings were in their ranges
abbrev pub IsAfterOpening : ServerRunFault → Type 0
IsAfterOpening (run.Settings fault) = ⊥
IsAfterOpening run.Memory = Unit {0}
IsAfterOpening run.Announce = Unit {0}
IsAfterOpening run.Accept = Unit {0}

-- the server had not begun
abbrev pub IsBeforeStart : ServerRunFault → Type 0
IsBeforeStart (run.Settings fault) = Unit {0}
IsBeforeStart run.Memory = Unit {0}
IsBeforeStart run.Announce = ⊥
IsBeforeStart run.Accept = ⊥

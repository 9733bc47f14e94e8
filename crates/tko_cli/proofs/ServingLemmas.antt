-- What `serve` writes, and why it fails.
use Rattle.std.proofs.Common.{◌≡◌, ◌<◌, ℕ, List, Option, Some, Ok, Err, IfErr, OnErr, OnOk, Result, ap, inl, inr, refl, subst, sym}
use Rattle.tko_model.specs.Ranges.{IsWithinRanges, first_fault}
use Rattle.tko_model.specs.Settings.{Settings}
use Rattle.tko_model.specs.declared.settings.SettingsFault.{SettingsFault}
use Rattle.tko_server.specs.Announcing.{After, Before, IsAnnounced}
use Rattle.tko_server.specs.Runs.{tracker_settings}
use Rattle.tko_server.specs.declared.run_fault.ServerRunFault.{ServerRunFault as ServerFault}
use Rattle.tko_server.specs.declared.run_fault.ServerRunFault.TheVariants as server_fault
use Rattle.tko_server.specs.declared.running.Options.{Options as Server}
use Rattle.tko_commands.proofs.GroupedLemmas.{no_fault}
use Rattle.tko_commands.specs.declared.fault.Fault.{Fault}
use Rattle.tko_commands.specs.declared.fault.Fault.TheVariants as fault
use Rattle.tko_commands.specs.declared.listen_fault.ListenFault.{ListenFault}
use Rattle.tko_commands.specs.declared.listen_fault.ListenFault.TheVariants as listen_fault
use Rattle.tko_cli.specs.Planned.{IsServePlan, IsServerOf, NoPlan}
use Rattle.tko_cli.specs.Announcements.{HasNotPrinted, HasPrinted, ready_text}
use Rattle.tko_cli.specs.Serving.{HasNoListener, HasNoMetrics, HasNotOpened, HasPlan, HasServeFailed, IsAddressRefused, IsToRun, IsNamed, IsNoAddress, IsOfOptions, IsRunnable, NotReady, NotWritten, PreparedFails, Ready, RunFails, ServeFails, TotalsFail, fault_of_server}
use Rattle.tko_cli.specs.declared.announcement.Announcement.{Announcement}
use Rattle.tko_cli.specs.declared.planned.ServePlan.{ServePlan}
use Rattle.tko_cli.specs.declared.prepared.Prepared.{Prepared}
use Rattle.tko_options.specs.declared.serve_options.ServeOptions.{ServeOptions}

-- what holds in any case, where it is Ok
pub in_any_case : {T E P : Type 0} (result : Result T E) → P → OnOk result P
in_any_case (Ok value) holds = holds
in_any_case (Err error) holds = tt

-- what follows from an error
pub from_err : {T E P : Type 0} {Q : E → Type 0} (result : Result T E) → IfErr result Q → ((error : E) → Q error → P)
    → OnErr result P
from_err (Ok value) is next = tt
from_err (Err error) is next = next error is

-- the tracker of a planned server has the plan's settings
settings_of_plan : (options : ServeOptions) (plan : ServePlan) (open_files : Option ℕ) (server : Server)
    → IsServePlan options plan → IsServerOf plan options open_files server
    → tracker_settings server ≡ plan.settings
settings_of_plan options plan open_files server planned is = rw (is.settings, is.config, planned.settings) refl

-- so it can run
pub is_runnable : (options : ServeOptions) (prepared : Prepared) → IsNamed options prepared.server → IsRunnable prepared
is_runnable options prepared is =
    subst IsWithinRanges (sym (settings_of_plan options is.plan is.open_files prepared.server is.planned is.of_plan)) is.planned.within

pub has_plan : (options : ServeOptions) (server : Server) → IsNamed options server → HasPlan options
has_plan options server is = record { plan = is.plan; planned = is.planned }

-- no setting of a server that can run is a fault
pub never_unset : (settings : Settings) (name : SettingsFault) → IsWithinRanges settings
    → first_fault settings ≡ Some name → ⊥
never_unset settings name within first =
    let none = no_fault settings within in
    absurd (cc)

-- an announcement keeps its output
pub same_output : {O T : Type 0} (takes : O → List ℕ → O → Type 0) (failures : O → ℕ) (old new : Announcement O)
    (result : Result T ServerFault) → IsAnnounced (HasPrinted takes failures) (HasNotPrinted failures) old new result
    → new.output.ghost_name ≡ old.output.ghost_name
same_output takes failures old new (Ok ended) is = is.same_reference
same_output takes failures old new (Err (server_fault.Settings name)) is = ap (λ one. one.output.ghost_name) is
same_output takes failures old new (Err server_fault.Memory) (Before same) = ap (λ one. one.output.ghost_name) same
same_output takes failures old new (Err server_fault.Memory) (After printed) = printed.same_reference
same_output takes failures old new (Err server_fault.Announce) is = is.same_reference
same_output takes failures old new (Err server_fault.Accept) is = is.same_reference

-- why a server fails that had announced to this output, or had not
pub server_fails : {O T : Type 0} (takes : O → List ℕ → O → Type 0) (failures : O → ℕ) (old new : Announcement O)
    (to : O) (result : Result T ServerFault) → to ≡ new.output.now
    → ((name : SettingsFault) → result ≡ Err (server_fault.Settings name) → ⊥)
    → IsAnnounced (HasPrinted takes failures) (HasNotPrinted failures) old new result
    → IfErr result (λ cause. PreparedFails takes failures old.output.now to (fault_of_server cause))
server_fails takes failures old new to (Ok ended) kept never is = tt
server_fails takes failures old new to (Err (server_fault.Settings name)) kept never is = absurd (never name refl)
server_fails takes failures old new to (Err server_fault.Memory) kept never (Before same) =
    inl (rw kept (ap (λ one. one.output.now) same))
server_fails takes failures old new to (Err server_fault.Memory) kept never (After printed) =
    inr (rw kept printed.written.ready)
server_fails takes failures old new to (Err server_fault.Announce) kept never is = rw kept is.failed
server_fails takes failures old new to (Err server_fault.Accept) kept never is = rw kept is.written.ready

-- after `ready` the totals were not written
pub totals_fail : {O : Type 0} (takes : O → List ℕ → O → Type 0) (failures : O → ℕ) (from middle to : O)
    (reason : Fault) → takes from ready_text middle → failures middle ≡ failures from
    → TotalsFail failures middle to reason → PreparedFails takes failures from to reason
totals_fail takes failures from middle to fault.Write ready calm is = subst (λ n. n < failures to) calm is
totals_fail takes failures from middle to fault.Memory ready calm is = inr (subst (takes from ready_text) (sym is) ready)
totals_fail takes failures from middle to fault.Read ready calm is = absurd is
totals_fail takes failures from middle to fault.LineTooLong ready calm is = absurd is
totals_fail takes failures from middle to (fault.Settings outside) ready calm is = absurd is
totals_fail takes failures from middle to (fault.Config cause) ready calm is = absurd is
totals_fail takes failures from middle to fault.ConfigFile ready calm is = absurd is
totals_fail takes failures from middle to (fault.Against cause) ready calm is = absurd is
totals_fail takes failures from middle to (fault.KeysFile unread) ready calm is = absurd is
totals_fail takes failures from middle to (fault.Outcomes number) ready calm is = absurd is
totals_fail takes failures from middle to (fault.Line number) ready calm is = absurd is
totals_fail takes failures from middle to fault.Check ready calm is = absurd is
totals_fail takes failures from middle to (fault.Delays delays) ready calm is = absurd is
totals_fail takes failures from middle to (fault.Listen cause) ready calm is = absurd is
totals_fail takes failures from middle to (fault.Metrics cause) ready calm is = absurd is
totals_fail takes failures from middle to fault.Accept ready calm is = absurd is

-- where the address of the clients is refused, nothing was opened
pub no_listener : (options : ServeOptions) (reason : Fault) → HasNoListener reason → HasNotOpened options reason
no_listener options (fault.Listen cause) none = none
no_listener options fault.Memory none = tt
no_listener options fault.Write none = absurd none
no_listener options fault.Accept none = absurd none
no_listener options (fault.Metrics cause) none = absurd none
no_listener options fault.Read none = absurd none
no_listener options fault.LineTooLong none = absurd none
no_listener options (fault.Settings outside) none = absurd none
no_listener options (fault.Config cause) none = absurd none
no_listener options fault.ConfigFile none = absurd none
no_listener options (fault.Against cause) none = absurd none
no_listener options (fault.KeysFile unread) none = absurd none
no_listener options (fault.Outcomes number) none = absurd none
no_listener options (fault.Line number) none = absurd none
no_listener options fault.Check none = absurd none
no_listener options (fault.Delays delays) none = absurd none

-- and where that of the metrics is
pub no_metrics : (options : ServeOptions) (reason : Fault) → HasNoMetrics options reason → HasNotOpened options reason
no_metrics options (fault.Metrics cause) none = none
no_metrics options fault.Memory none = tt
no_metrics options fault.Write none = absurd none
no_metrics options fault.Accept none = absurd none
no_metrics options (fault.Listen cause) none = absurd none
no_metrics options fault.Read none = absurd none
no_metrics options fault.LineTooLong none = absurd none
no_metrics options (fault.Settings outside) none = absurd none
no_metrics options (fault.Config cause) none = absurd none
no_metrics options fault.ConfigFile none = absurd none
no_metrics options (fault.Against cause) none = absurd none
no_metrics options (fault.KeysFile unread) none = absurd none
no_metrics options (fault.Outcomes number) none = absurd none
no_metrics options (fault.Line number) none = absurd none
no_metrics options fault.Check none = absurd none
no_metrics options (fault.Delays delays) none = absurd none

-- where nothing was opened, nothing was written
pub unopened_fails : {O : Type 0} (takes : O → List ℕ → O → Type 0) (failures : O → ℕ) (options : ServeOptions)
    (from : O) (reason : Fault) → HasNotOpened options reason → RunFails takes failures options from from reason
unopened_fails takes failures options from (fault.Listen cause) none = (none, refl)
unopened_fails takes failures options from (fault.Metrics cause) none = (none, refl)
unopened_fails takes failures options from fault.Memory none = inl refl
unopened_fails takes failures options from fault.Write none = absurd none
unopened_fails takes failures options from fault.Accept none = absurd none
unopened_fails takes failures options from fault.Read none = absurd none
unopened_fails takes failures options from fault.LineTooLong none = absurd none
unopened_fails takes failures options from (fault.Settings outside) none = absurd none
unopened_fails takes failures options from (fault.Config cause) none = absurd none
unopened_fails takes failures options from fault.ConfigFile none = absurd none
unopened_fails takes failures options from (fault.Against cause) none = absurd none
unopened_fails takes failures options from (fault.KeysFile unread) none = absurd none
unopened_fails takes failures options from (fault.Outcomes number) none = absurd none
unopened_fails takes failures options from (fault.Line number) none = absurd none
unopened_fails takes failures options from fault.Check none = absurd none
unopened_fails takes failures options from (fault.Delays delays) none = absurd none

-- a server that was ready to run fails as one that is named
pub prepared_runs : {O : Type 0} (takes : O → List ℕ → O → Type 0) (failures : O → ℕ) (options : ServeOptions)
    (from to : O) (reason : Fault) → PreparedFails takes failures from to reason
    → RunFails takes failures options from to reason
prepared_runs takes failures options from to (fault.Listen cause) is = absurd is
prepared_runs takes failures options from to (fault.Metrics cause) is = absurd is
prepared_runs takes failures options from to fault.Write is = is
prepared_runs takes failures options from to fault.Accept is = is
prepared_runs takes failures options from to fault.Memory is = is
prepared_runs takes failures options from to fault.Read is = is
prepared_runs takes failures options from to fault.LineTooLong is = is
prepared_runs takes failures options from to (fault.Settings outside) is = is
prepared_runs takes failures options from to (fault.Config cause) is = is
prepared_runs takes failures options from to fault.ConfigFile is = is
prepared_runs takes failures options from to (fault.Against cause) is = is
prepared_runs takes failures options from to (fault.KeysFile unread) is = is
prepared_runs takes failures options from to (fault.Outcomes number) is = is
prepared_runs takes failures options from to (fault.Line number) is = is
prepared_runs takes failures options from to fault.Check is = is
prepared_runs takes failures options from to (fault.Delays delays) is = is

-- where nothing is named, nothing was written
pub unnamed_fails : {O : Type 0} (takes : O → List ℕ → O → Type 0) (failures : O → ℕ) (options : ServeOptions)
    (from : O) (reason : Fault) → NoPlan options reason → ServeFails takes failures options from from reason
unnamed_fails takes failures options from (fault.Listen cause) none = (inl none, refl)
unnamed_fails takes failures options from (fault.Metrics cause) none = (inl none, refl)
unnamed_fails takes failures options from fault.Memory none = inl refl
unnamed_fails takes failures options from fault.Write none = absurd none
unnamed_fails takes failures options from fault.Accept none = absurd none
unnamed_fails takes failures options from fault.Read none = (none, refl)
unnamed_fails takes failures options from fault.LineTooLong none = (none, refl)
unnamed_fails takes failures options from (fault.Settings outside) none = (none, refl)
unnamed_fails takes failures options from (fault.Config cause) none = (none, refl)
unnamed_fails takes failures options from fault.ConfigFile none = (none, refl)
unnamed_fails takes failures options from (fault.Against cause) none = (none, refl)
unnamed_fails takes failures options from (fault.KeysFile unread) none = (none, refl)
unnamed_fails takes failures options from (fault.Outcomes number) none = (none, refl)
unnamed_fails takes failures options from (fault.Line number) none = (none, refl)
unnamed_fails takes failures options from fault.Check none = (none, refl)
unnamed_fails takes failures options from (fault.Delays delays) none = (none, refl)

-- why a server that the options name fails
pub named_fails : {O : Type 0} (takes : O → List ℕ → O → Type 0) (failures : O → ℕ) (options : ServeOptions)
    (from to : O) (reason : Fault) → IsToRun options → RunFails takes failures options from to reason
    → ServeFails takes failures options from to reason
named_fails takes failures options from to (fault.Listen cause) plan is = (inr (plan, is.0), is.1)
named_fails takes failures options from to (fault.Metrics cause) plan is = (inr (plan, is.0), is.1)
named_fails takes failures options from to fault.Write plan is = is
named_fails takes failures options from to fault.Accept plan is = record { plan = plan; ready = is }
named_fails takes failures options from to fault.Memory plan (inl same) = inl same
named_fails takes failures options from to fault.Memory plan (inr ready) = inr (record { plan = plan; ready = ready })
named_fails takes failures options from to fault.Read plan is = absurd is
named_fails takes failures options from to fault.LineTooLong plan is = absurd is
named_fails takes failures options from to (fault.Settings outside) plan is = absurd is
named_fails takes failures options from to (fault.Config cause) plan is = absurd is
named_fails takes failures options from to fault.ConfigFile plan is = absurd is
named_fails takes failures options from to (fault.Against cause) plan is = absurd is
named_fails takes failures options from to (fault.KeysFile unread) plan is = absurd is
named_fails takes failures options from to (fault.Outcomes number) plan is = absurd is
named_fails takes failures options from to (fault.Line number) plan is = absurd is
named_fails takes failures options from to fault.Check plan is = absurd is
named_fails takes failures options from to (fault.Delays delays) plan is = absurd is

-- what a check prints did not go out
pub unwritten_fails : {O : Type 0} (takes : O → List ℕ → O → Type 0) (failures : O → ℕ) (options : ServeOptions)
    (from to : O) (reason : Fault) → (reason ≡ fault.Write) × (failures from < failures to)
    → ServeFails takes failures options from to reason
unwritten_fails takes failures options from to reason is =
    subst (λ it. ServeFails takes failures options from to it) (sym is.0) is.1

-- and that is no fault of the options
pub unwritten_never : (reason : Fault) → reason ≡ fault.Write → IsOfOptions reason → ⊥
unwritten_never reason is of = absurd (subst IsOfOptions is of)

-- how such a server has failed
pub has_failed : {O : Type 0} (takes : O → List ℕ → O → Type 0) (failures : O → ℕ) (options : ServeOptions) (from to : O)
    (reason : Fault) → RunFails takes failures options from to reason → HasServeFailed takes failures from to
has_failed takes failures options from to (fault.Listen cause) is = NotReady is.1
has_failed takes failures options from to (fault.Metrics cause) is = NotReady is.1
has_failed takes failures options from to fault.Write is = NotWritten is
has_failed takes failures options from to fault.Accept is = Ready is
has_failed takes failures options from to fault.Memory (inl same) = NotReady same
has_failed takes failures options from to fault.Memory (inr ready) = Ready ready
has_failed takes failures options from to fault.Read is = absurd is
has_failed takes failures options from to fault.LineTooLong is = absurd is
has_failed takes failures options from to (fault.Settings outside) is = absurd is
has_failed takes failures options from to (fault.Config cause) is = absurd is
has_failed takes failures options from to fault.ConfigFile is = absurd is
has_failed takes failures options from to (fault.Against cause) is = absurd is
has_failed takes failures options from to (fault.KeysFile unread) is = absurd is
has_failed takes failures options from to (fault.Outcomes number) is = absurd is
has_failed takes failures options from to (fault.Line number) is = absurd is
has_failed takes failures options from to fault.Check is = absurd is
has_failed takes failures options from to (fault.Delays delays) is = absurd is

-- a text that the system refuses is an address
refused_address : (cause : ListenFault) → IsAddressRefused cause → IsNoAddress cause → ⊥
refused_address listen_fault.NoAddress refused none = absurd refused
refused_address (listen_fault.System words) refused none = absurd none

-- and its fault is none of the options
pub never_of_options : {O : Type 0} (takes : O → List ℕ → O → Type 0) (failures : O → ℕ) (options : ServeOptions) (from to : O)
    (reason : Fault) → RunFails takes failures options from to reason → IsOfOptions reason → ⊥
never_of_options takes failures options from to (fault.Listen cause) is of = refused_address cause is.0 of
never_of_options takes failures options from to (fault.Metrics cause) is of = refused_address cause is.0.refused of
never_of_options takes failures options from to fault.Write is of = absurd of
never_of_options takes failures options from to fault.Accept is of = absurd of
never_of_options takes failures options from to fault.Memory is of = absurd of
never_of_options takes failures options from to fault.Read is of = absurd is
never_of_options takes failures options from to fault.LineTooLong is of = absurd is
never_of_options takes failures options from to (fault.Settings outside) is of = absurd is
never_of_options takes failures options from to (fault.Config cause) is of = absurd is
never_of_options takes failures options from to fault.ConfigFile is of = absurd is
never_of_options takes failures options from to (fault.Against cause) is of = absurd is
never_of_options takes failures options from to (fault.KeysFile unread) is of = absurd is
never_of_options takes failures options from to (fault.Outcomes number) is of = absurd is
never_of_options takes failures options from to (fault.Line number) is of = absurd is
never_of_options takes failures options from to fault.Check is of = absurd is
never_of_options takes failures options from to (fault.Delays delays) is of = absurd is

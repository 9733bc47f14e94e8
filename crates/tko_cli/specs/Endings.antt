-- What a command did, by how it ended.
use Rattle.std.specs.Prelude.{ℕ, ◌≡◌, ◌<◌, true, false, List, Option, Some, None, string_bytes}
use Rattle.std.specs.declared.fs.File.{File}
use Rattle.tko_io.specs.declared.io.Inlet.{Ghosts as InletGhosts}
use Rattle.tko_io.specs.declared.io.Outlet.{Ghosts as OutletGhosts}
use Rattle.tko_commands.specs.Done.{HasCheckedAll, HasDried}
use Rattle.tko_commands.specs.FaultLines.{IsFaultWritten, IsReasonTold}
use Rattle.tko_commands.specs.NotDone.{HasNotChecked, HasNotDried}
use Rattle.tko_commands.specs.Reasons.{IsFileFault, IsLoadedServer}
use Rattle.tko_commands.specs.Replays.{ReplayFails, ReplaysSchedule}
use Rattle.tko_commands.specs.declared.fault.Fault.{Fault}
use Rattle.tko_commands.specs.declared.fault.Fault.TheVariants as fault
use Rattle.tko_cli.specs.Demos.{HasDemonstrated, IsDemoFault}
use Rattle.tko_demo.specs.Stories.{StayFails}
use Rattle.tko_cli.specs.Notices.{HasServerNotes}
use Rattle.tko_cli.specs.Serving.{HasServeFailed, HasServedOrChecked, IsOfSystem, ServeFails}
use Rattle.tko_reach.specs.Connecting.{HasAskedServers, HasNotAskedServers}
use Rattle.tko_options.specs.Asked.{IsReadFrom, IsRefusal}
use Rattle.tko_options.specs.declared.asked.Asked.TheVariants as asked
use Rattle.tko_options.specs.declared.check_options.CheckOptions.{CheckOptions}
use Rattle.tko_options.specs.declared.demo_options.DemoOptions.{DemoOptions}
use Rattle.tko_options.specs.declared.dry_options.DryOptions.{DryOptions}
use Rattle.tko_options.specs.declared.refusal.Refusal.{Refusal}
use Rattle.tko_options.specs.declared.refusal.Refusal.TheVariants as refusal
use Rattle.tko_options.specs.declared.serve_options.ServeOptions.{ServeOptions}

-- the ends of a command: what it reads, what it writes, and where it writes faults and notices
pub record CommandEnds (I O F : Type 0) : Type 0 where
  pub input : I
  pub output : O
  pub faults : F

abbrev pub ends : {I O F : Type 0} → I → O → F → CommandEnds I O F
ends input output faults = record { input = input; output = output; faults = faults }

-- a server of these options, with the text of their configuration's file if they name one, ran to
-- its end, or was only checked, and there are its notes
pub record HasServedFor {O F : Type 0} (outlet : OutletGhosts O) (notes : OutletGhosts F)
    (options : ServeOptions) (old new : O × F) : Type 0 where
  pub loaded : ServeOptions
  pub text : IsLoadedServer options loaded
  pub served : HasServedOrChecked outlet.takes loaded old.0 new.0
  pub noted : HasServerNotes notes.takes notes.failures loaded old.1 new.1

-- the text that is to be shown in place of a command
abbrev pub answer_in : Refusal → Option (List ℕ)
answer_in (refusal.Answer text) = Some (string_bytes text)
answer_in _ = None

-- the command that these words ask for was done, and no fault was written; or a text was, as the
-- help, where clap takes no command from the words. What a file has left is what std says of it,
-- which is nothing.
pub data IsCommandDone {I O F : Type 0} (inlet : InletGhosts I) (outlet : OutletGhosts O)
    (notes : OutletGhosts F) (words : List (List ℕ)) (old new : CommandEnds I O F) : Type 0 where
  Dried : (options : DryOptions) → IsReadFrom words (asked.Dry options)
      → HasDried inlet outlet options (old.input, old.output) (new.input, new.output)
      → new.faults ≡ old.faults → IsCommandDone inlet outlet notes words old new
  Replayed : IsReadFrom words asked.Replay
      → ReplaysSchedule inlet.gives inlet.is_ended outlet.takes old.input old.output
      new.input new.output
      → new.faults ≡ old.faults → IsCommandDone inlet outlet notes words old new
  Served : (options : ServeOptions) → IsReadFrom words (asked.Serve options)
      → HasServedFor outlet notes options (old.output, old.faults) (new.output, new.faults)
      → new.input ≡ old.input → IsCommandDone inlet outlet notes words old new
  Checked : (left : File → Option (List ℕ)) (options : CheckOptions)
      → IsReadFrom words (asked.Check options) → options.connect ≡ false
      → HasCheckedAll inlet left outlet.takes options (old.input, old.output)
      (new.input, new.output)
      → new.faults ≡ old.faults → IsCommandDone inlet outlet notes words old new
  Connected : (left : File → Option (List ℕ)) (options : CheckOptions)
      → IsReadFrom words (asked.Check options) → options.connect ≡ true
      → HasAskedServers inlet left outlet.takes options true (old.input, old.output)
      (new.input, new.output)
      → new.faults ≡ old.faults → IsCommandDone inlet outlet notes words old new
  Demonstrated : (options : DemoOptions) → IsReadFrom words (asked.Demo options)
      → HasDemonstrated inlet outlet.takes options (old.input, old.output) (new.input, new.output)
      → new.faults ≡ old.faults → IsCommandDone inlet outlet notes words old new
  Shown : (shown : Refusal) (text : List ℕ) → IsRefusal words shown → answer_in shown ≡ Some text
      → outlet.takes old.output text new.output → new.input ≡ old.input
      → new.faults ≡ old.faults → IsCommandDone inlet outlet notes words old new

-- these words ask for a check that also asks the servers, it was done, and a server did not give
-- its version; no fault was written
pub record LacksVersions {I O F : Type 0} (inlet : InletGhosts I) (outlet : OutletGhosts O)
    (words : List (List ℕ)) (old new : CommandEnds I O F) : Type 0 where
  pub left : File → Option (List ℕ)
  pub options : CheckOptions
  pub asked : IsReadFrom words (asked.Check options)
  pub connects : options.connect ≡ true
  pub connected : HasAskedServers inlet left outlet.takes options false (old.input, old.output)
      (new.input, new.output)
  pub silent : new.faults ≡ old.faults

-- by this fault a server of these options ended: the file of their configuration cannot be read, or
-- it failed with the text of that file
pub data HasNotServed {O : Type 0} (takes : O → List ℕ → O → Type 0) (failures : O → ℕ)
    (options : ServeOptions) (from to : O) (reason : Fault) : Type 0 where
  NoServerFile : IsFileFault reason → to ≡ from
      → HasNotServed takes failures options from to reason
  NotServed : (loaded : ServeOptions) → IsLoadedServer options loaded
      → ServeFails takes failures loaded from to reason
      → HasNotServed takes failures options from to reason

-- there are the notes of a server of these options, with the text of their configuration's file if
-- they name one
pub record HasNotesFor {F : Type 0} (notes : OutletGhosts F) (options : ServeOptions) (old new : F)
    : Type 0 where
  pub loaded : ServeOptions
  pub text : IsLoadedServer options loaded
  pub noted : HasServerNotes notes.takes notes.failures loaded old new

-- there are the notes of the server that these words ask for
pub record HasNotesOf {F : Type 0} (notes : OutletGhosts F) (words : List (List ℕ)) (old new : F)
    : Type 0 where
  pub options : ServeOptions
  pub asked : IsReadFrom words (asked.Serve options)
  pub noted : HasNotesFor notes options old new

-- by this fault the command that these words ask for ended; or the text that was to be shown in
-- place of one could not be written, or there was no memory to read the words
pub data IsNotDone {I O : Type 0} (inlet : InletGhosts I) (outlet : OutletGhosts O)
    (words : List (List ℕ)) (old new : I × O) (reason : Fault) : Type 0 where
  NotDriedFor : (options : DryOptions) → IsReadFrom words (asked.Dry options)
      → HasNotDried inlet outlet options old new reason
      → IsNotDone inlet outlet words old new reason
  NotReplayed : IsReadFrom words asked.Replay
      → ReplayFails inlet.gives inlet.is_ended inlet.failures outlet.failures
      old.0 new.0 old.1 new.1 reason → IsNotDone inlet outlet words old new reason
  NotServedFor : (options : ServeOptions) → IsReadFrom words (asked.Serve options)
      → HasNotServed outlet.takes outlet.failures options old.1 new.1 reason
      → new.0 ≡ old.0 → IsNotDone inlet outlet words old new reason
  NotCheckedFor : (options : CheckOptions) → IsReadFrom words (asked.Check options)
      → options.connect ≡ false
      → HasNotChecked inlet.failures outlet.failures options old new reason
      → IsNotDone inlet outlet words old new reason
  NotConnectedFor : (left : File → Option (List ℕ)) (options : CheckOptions)
      → IsReadFrom words (asked.Check options) → options.connect ≡ true
      → HasNotAskedServers inlet left outlet options old new reason
      → IsNotDone inlet outlet words old new reason
  NotShown : (shown : Refusal) (text : List ℕ) → IsRefusal words shown
      → answer_in shown ≡ Some text → reason ≡ fault.Write
      → outlet.failures old.1 < outlet.failures new.1 → new.0 ≡ old.0
      → IsNotDone inlet outlet words old new reason
  NotRead : IsRefusal words refusal.Memory → reason ≡ fault.Memory → new ≡ old
      → IsNotDone inlet outlet words old new reason

-- a fault came, of which this is known; its line was written, and nothing else but a line that says
-- why, or what is noted of a server, or, where the system refuses it an address, both
pub data IsFaultTold {O F : Type 0} (takes : O → List ℕ → O → Type 0) (failures : O → ℕ)
    (notes : OutletGhosts F) (is_noted : F → F → Type 0) (came : Fault → Type 0)
    (from to : O) (old new : F) : Type 0
  where
    AfterReason : IsReasonTold notes.takes notes.failures came old new
        → IsFaultTold takes failures notes is_noted came from to old new
    AfterNotes : (middle : F) (reason : Fault) → came reason
        → HasServeFailed takes failures from to
        → is_noted old middle → IsFaultWritten notes.takes notes.failures reason middle new
        → IsFaultTold takes failures notes is_noted came from to old new
    AfterRefusal : (middle : F) → to ≡ from → is_noted old middle
        → IsReasonTold notes.takes notes.failures (λ reason. came reason × IsOfSystem reason)
        middle new → IsFaultTold takes failures notes is_noted came from to old new

-- by a fault the command that these words ask for ended, and its line was written; of `demo` it is
-- a fault of its own
pub data HasCommandFailed {I O F : Type 0} (inlet : InletGhosts I) (outlet : OutletGhosts O)
    (notes : OutletGhosts F) (words : List (List ℕ)) (old new : CommandEnds I O F) : Type 0 where
  WithFault : IsFaultTold outlet.takes outlet.failures notes (HasNotesOf notes words)
      (IsNotDone inlet outlet words (old.input, old.output) (new.input, new.output))
      old.output new.output old.faults new.faults
      → HasCommandFailed inlet outlet notes words old new
  NotDemonstrated : (options : DemoOptions) → IsReadFrom words (asked.Demo options)
      → IsDemoFault notes.takes notes.failures (StayFails inlet.failures outlet.failures
      (old.input, old.output) (new.input, new.output)) old.faults new.faults
      → HasCommandFailed inlet outlet notes words old new

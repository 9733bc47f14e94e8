-- The line that says why in words, before the line of a fault.
use Rattle.std.specs.Prelude.{◌≡◌, ◌<◌, ℕ, List, ◌++◌, None, codes, is_some, string_bytes, true}
use Rattle.tko_explain.specs.Reasons.{IsReasonOf}
use Rattle.tko_commands.specs.Faults.{listen_words}
use Rattle.tko_commands.specs.OutsideRanges.{IsDelaysReason, IsRangeReason}
use Rattle.tko_commands.specs.declared.fault.Fault.{Fault}
use Rattle.tko_commands.specs.declared.fault.Fault.TheVariants as fault
use Rattle.tko_commands.specs.declared.listen_fault.ListenFault.{ListenFault}
use Rattle.tko_commands.specs.declared.unread_keys.UnreadKeys.{UnreadKeys}
use Rattle.tko_options.specs.declared.check_options.CheckOptions.{CheckOptions}
use Rattle.tko_options.specs.declared.dry_options.DryOptions.{DryOptions}
use Rattle.tko_options.specs.declared.serve_options.ServeOptions.{ServeOptions}

-- the file of a configuration cannot be read: its path, and what the system says
pub record IsFileReason (path line : List ℕ) : Type 0 where
  pub detail : List ℕ
  pub is : line ≡ codes "config: " ++ path ++ codes ": " ++ detail ++ codes "\n"

-- the file of a list of keys cannot be read: its path, and what the system says
abbrev pub IsKeysReason : UnreadKeys → List ℕ → Type 0
IsKeysReason unread line =
    line ≡ codes "keys: " ++ string_bytes unread.path ++ codes ": " ++ string_bytes unread.words
    ++ codes "\n"

-- nothing can listen at an address, for this cause, which the line says after this word
abbrev pub IsAddressReason : List ℕ → ListenFault → List ℕ → List ℕ → Type 0
IsAddressReason word cause address line =
    line ≡ word ++ address ++ codes ": " ++ listen_words cause ++ codes "\n"

-- nothing can listen at the address that clients are to connect to, for this cause
abbrev pub IsListenReason : ListenFault → List ℕ → List ℕ → Type 0
IsListenReason cause address line = IsAddressReason (codes "listen: ") cause address line

-- the same of the address of the metrics
abbrev pub IsMetricsReason : ListenFault → List ℕ → List ℕ → Type 0
IsMetricsReason cause address line = IsAddressReason (codes "metrics: ") cause address line

-- a line that says why a command ends with a fault: of which text the configuration is to be, which
-- option is outside which range, how the delays of probes have to be, which file cannot be read, or
-- why nothing can listen at which address. No other fault has one.
abbrev pub IsReasonFor : Fault → List ℕ → Type 0
IsReasonFor (fault.Config cause) line = (json : List ℕ) × IsReasonOf json cause line
IsReasonFor (fault.Against cause) line = (json : List ℕ) × IsReasonOf json cause line
IsReasonFor fault.ConfigFile line = (path : List ℕ) × IsFileReason path line
IsReasonFor (fault.KeysFile unread) line = IsKeysReason unread line
IsReasonFor (fault.Settings outside) line = IsRangeReason outside line
IsReasonFor (fault.Delays delays) line = IsDelaysReason delays line
IsReasonFor (fault.Listen cause) line = (address : List ℕ) × IsListenReason cause address line
IsReasonFor (fault.Metrics cause) line = (address : List ℕ) × IsMetricsReason cause address line
IsReasonFor other line = ⊥

-- such a line was written, or nothing, or the outlet failed
pub data HasLineOf {O : Type 0} (takes : O → List ℕ → O → Type 0) (failures : O → ℕ)
    (is : List ℕ → Type 0) (old new : O) : Type 0 where
  Written : (line : List ℕ) → is line → takes old line new → HasLineOf takes failures is old new
  LeftOut : new ≡ old → HasLineOf takes failures is old new
  Failed : failures old < failures new → HasLineOf takes failures is old new

-- the faults of a file that cannot be read
abbrev pub IsFileFault : Fault → Type 0
IsFileFault fault.ConfigFile = Unit {0}
IsFileFault fault.Memory = Unit {0}
IsFileFault other = ⊥

-- the options of a dry run with the text of their file, if they name one
pub record IsLoadedDry (options loaded : DryOptions) : Type 0 where
  pub others : loaded ≡ record options { config = loaded.config }
  pub alone : options.config_file ≡ None → loaded.config ≡ options.config

-- the options of a server with the text of their file, if they name one
pub record IsLoadedServer (options loaded : ServeOptions) : Type 0 where
  pub others : loaded ≡ record options { config = loaded.config }
  pub alone : options.config_file ≡ None → loaded.config ≡ options.config

-- the options of a check with the text of their file, if they name one, and that of the file of the
-- configuration to compare with, if they name one
pub record IsLoadedCheck (options loaded : CheckOptions) : Type 0 where
  pub others : loaded ≡ record options { config = loaded.config; against = loaded.against }
  pub alone : options.config_file ≡ None → loaded.config ≡ options.config
  pub uncompared : options.against_file ≡ None → loaded.against ≡ options.against
  pub compared : is_some options.against_file ≡ true → is_some loaded.against ≡ true

-- What `check` writes, and why it fails.
use Rattle.std.specs.Prelude.{◌≡◌, ◌<◌, ◌⊎◌, ℕ, false, List, ◌++◌, Option, Some, IsSomeAnd, codes, map, option_map, string_bytes}
use Rattle.tko_explain.specs.Reports.{IsReport}
use Rattle.tko_io.specs.declared.io.Inlet.{Ghosts as InletGhosts}
use Rattle.tko_options.specs.declared.check_options.CheckOptions.{CheckOptions}
use Rattle.tko_pools.specs.Configs.{Refuses}
use Rattle.tko_pools.specs.declared.fault.ConfigFault.{ConfigFault}
use Rattle.tko_commands.specs.Faults.{fault_of_config, fault_of_other}
use Rattle.tko_commands.specs.KeyLists.{AreKeysCounted, against_of, names_input}
use Rattle.tko_commands.specs.declared.fault.Fault.{Fault}
use Rattle.tko_commands.specs.declared.fault.Fault.TheVariants as fault
use Rattle.tko_commands.specs.declared.unread_keys.UnreadKeys.{UnreadKeys}

-- the path of the list of keys that the options name
abbrev pub list_of : CheckOptions → Option (List ℕ)
list_of options = option_map string_bytes options.keys_from

-- the text that a check of these options prints: what the configuration means, with the keys, and
-- then what is counted of the list of keys, if the options name one
pub record IsCheckText {I F : Type 0} (inlet : InletGhosts I) (left : F → Option (List ℕ))
    (options : CheckOptions) (from to : I) (text : List ℕ) : Type 0 where
  pub printed : List ℕ
  pub counted : List ℕ
  pub report : IsReport (string_bytes options.config) (map string_bytes options.keys.items) printed
  pub counts : AreKeysCounted inlet left options (list_of options) from to counted
  pub joined : text ≡ printed ++ counted

-- this text went out
pub record HasChecked {I F O : Type 0} (inlet : InletGhosts I) (left : F → Option (List ℕ))
    (takes : O → List ℕ → O → Type 0) (options : CheckOptions) (old new : I × O) : Type 0 where
  pub text : List ℕ
  pub is_text : IsCheckText inlet left options old.0 new.0 text
  pub went : takes old.1 text new.1

-- the text is no configuration, and this is the first reason against it
pub record IsRefusedText (json : List ℕ) (cause : ConfigFault) : Type 0 where
  pub refuses : Refuses json cause
  pub reason : fault_of_config cause ≡ fault.Config cause

-- the text that the keys are compared with is no configuration, and this is the first reason
pub record IsRefusedOther (against : Option (List ℕ)) (cause : ConfigFault) : Type 0 where
  pub refuses : IsSomeAnd against (λ text. Refuses text cause)
  pub reason : fault_of_other cause ≡ fault.Against cause

-- the file of the list of keys cannot be read, which is the one that is named
pub record IsUnreadList (path : Option (List ℕ)) (unread : UnreadKeys) : Type 0 where
  pub named : path ≡ Some (string_bytes unread.path)
  pub is_file : names_input (string_bytes unread.path) ≡ false

-- why there is no text to print: the text of a configuration is none, the list of keys at a path
-- cannot be read, in a file or on standard input, or memory ran out. Standard input is read only
-- for a list that is there.
abbrev pub PrintFails : {I : Type 0} → (I → ℕ) → CheckOptions → Option (List ℕ) → I → I → Fault
    → Type 0
PrintFails failures options path from to (fault.Config cause) =
    IsRefusedText (string_bytes options.config) cause × (to ≡ from)
PrintFails failures options path from to (fault.Against cause) =
    IsRefusedOther (against_of options) cause × (to ≡ from)
PrintFails failures options path from to (fault.KeysFile unread) =
    IsUnreadList path unread × (to ≡ from)
PrintFails failures options path from to fault.Read =
    (path ≡ Some (codes "-")) × (failures from < failures to)
PrintFails failures options path from to fault.Memory = Unit {0}
PrintFails failures options path from to other = ⊥

-- why a check fails: the outlet failed, or there is no text, and then nothing was written
abbrev pub CheckFails : {I O : Type 0} → (I → ℕ) → (O → ℕ) → CheckOptions → I × O → I × O → Fault
    → Type 0
CheckFails reads writes options old new reason =
    ((reason ≡ fault.Write) × (writes old.1 < writes new.1))
    ⊎ (PrintFails reads options (list_of options) old.0 new.0 reason × (new.1 ≡ old.1))

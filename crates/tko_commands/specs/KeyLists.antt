-- How a list of keys is read, counted and printed.
use Rattle.std.specs.Prelude.{◌≡◌, ◌<◌, ℕ, Bool, true, false, List, [], ◌++◌, Option, Some, None, codes, option_map, string_bytes}
use Rattle.std.specs.Io.KnownBytes.{Consumes, IsAtEnd}
use Rattle.std.specs.Str.{bytes_eq}
use Rattle.tko_explain.specs.KeyCounting.{IsCountedOver}
use Rattle.tko_explain.specs.KeyReports.{IsKeyReport}
use Rattle.tko_explain.specs.declared.key_counts.KeyCounts.{KeyCounts}
use Rattle.tko_io.specs.declared.io.Inlet.{Ghosts as InletGhosts}
use Rattle.tko_options.specs.declared.check_options.CheckOptions.{CheckOptions}
use Rattle.tko_commands.specs.declared.fault.Fault.{Fault}
use Rattle.tko_commands.specs.declared.fault.Fault.TheVariants as fault

-- whether a path names standard input
abbrev pub names_input : List ℕ → Bool
names_input path = bytes_eq path (codes "-")

-- these bytes of a list were counted, whatever came before them
pub record AreCountedOn (old new : KeyCounts) (bytes : List ℕ) : Type 0 where
  pub on : (json : List ℕ) (against : Option (List ℕ)) (list : List ℕ)
      → IsCountedOver json against list old → IsCountedOver json against (list ++ bytes) new

-- bytes were read, and counted
pub record HasTaken {I : Type 0} (gives : I → List ℕ → I → Type 0) (from to : I)
    (old new : KeyCounts) : Type 0 where
  pub bytes : List ℕ
  pub came : gives from bytes to
  pub counted : AreCountedOn old new bytes

-- a list was read to its end, and counted
pub record HasTakenAll {I : Type 0} (gives : I → List ℕ → I → Type 0) (is_ended : I → Type 0)
    (from to : I) (old new : KeyCounts) : Type 0 where
  pub list : List ℕ
  pub came : gives from list to
  pub ended : is_ended to
  pub counted : AreCountedOn old new list

-- a file loses these bytes as it is read, as far as it is known what it has
abbrev pub loses : {F : Type 0} → (F → Option (List ℕ)) → F → List ℕ → F → Type 0
loses left from bytes to = Consumes (left from) (left to) bytes

-- a file was read to its end, as far as it is known what it has
abbrev pub is_read : {F : Type 0} → (F → Option (List ℕ)) → F → Type 0
is_read left file = IsAtEnd (left file)

-- a file that was opened had this list, which was read to its end
pub record IsOfFile {F : Type 0} (left : F → Option (List ℕ)) (list : List ℕ) : Type 0 where
  pub opened : F
  pub closed : F
  pub came : loses left opened list closed
  pub ended : is_read left closed

-- the list of a file was read to its end, and counted
pub record HasTakenFile {F : Type 0} (left : F → Option (List ℕ)) (old new : KeyCounts) : Type 0
  where
    pub list : List ℕ
    pub read : IsOfFile left list
    pub counted : AreCountedOn old new list

-- the list at a path: what standard input had left, up to its end, where the path names it; else
-- that of a file, and then standard input stays as it was
pub data IsListAt {I F : Type 0} (inlet : InletGhosts I) (left : F → Option (List ℕ))
    (path : List ℕ) (from to : I) (list : List ℕ) : Type 0 where
  OfInput : names_input path ≡ true → inlet.gives from list to → inlet.is_ended to
      → IsListAt inlet left path from to list
  OfFile : names_input path ≡ false → IsOfFile left list → to ≡ from
      → IsListAt inlet left path from to list

-- the list at a path was counted
pub record HasCountedKeys {I F : Type 0} (inlet : InletGhosts I) (left : F → Option (List ℕ))
    (path : List ℕ) (from to : I) (old new : KeyCounts) : Type 0 where
  pub list : List ℕ
  pub read : IsListAt inlet left path from to list
  pub counted : AreCountedOn old new list

-- the text of the configuration that the keys are compared with
abbrev pub against_of : CheckOptions → Option (List ℕ)
against_of options = option_map string_bytes options.against

-- this is printed of the list at a path, over the configurations of the options
pub record ArePrinted {I F : Type 0} (inlet : InletGhosts I) (left : F → Option (List ℕ))
    (options : CheckOptions) (path : List ℕ) (from to : I) (printed : List ℕ) : Type 0 where
  pub list : List ℕ
  pub read : IsListAt inlet left path from to list
  pub report : IsKeyReport (string_bytes options.config) (against_of options) list printed

-- the same of the list at a path, where there is one; else nothing is read or printed
abbrev pub AreKeysCounted : {I F : Type 0} → InletGhosts I → (F → Option (List ℕ)) → CheckOptions
    → Option (List ℕ) → I → I → List ℕ → Type 0
AreKeysCounted inlet left options None from to printed = (printed ≡ []) × (to ≡ from)
AreKeysCounted inlet left options (Some path) from to printed =
    ArePrinted inlet left options path from to printed

-- a file cannot be read, which is the one at this path, or memory ran out
abbrev pub IsUnreadFault : List ℕ → Fault → Type 0
IsUnreadFault path (fault.KeysFile cause) = string_bytes cause.path ≡ path
IsUnreadFault path fault.Memory = Unit {0}
IsUnreadFault path other = ⊥

-- standard input failed, or memory ran out
abbrev pub IsInputFault : {I : Type 0} → (I → ℕ) → I → I → Fault → Type 0
IsInputFault failures from to fault.Read = failures from < failures to
IsInputFault failures from to fault.Memory = Unit {0}
IsInputFault failures from to other = ⊥

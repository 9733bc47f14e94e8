-- What `serve` says beside its totals and its fault.
use Rattle.std.specs.Prelude.{◌≡◌, ◌<◌, ℕ, List, [], ◌++◌, Option, Some, None, codes, decimal, option_map, string_bytes}
use Rattle.tko_model.specs.Records.{Gains}
use Rattle.tko_accept.specs.declared.allotment.Allotment.{Allotment}
use Rattle.tko_commands.specs.Reasons.{HasLineOf}
use Rattle.tko_explain.specs.OddAddresses.{IsAddressNote}
use Rattle.tko_explain.specs.Reports.{IsWarnedOf}
use Rattle.tko_options.specs.declared.serve_options.ServeOptions.{ServeOptions}
use Rattle.tko_cli.specs.declared.notice.Notice.{Notice}
use Rattle.tko_cli.specs.declared.notice.Notice.TheVariants as notice

-- what the server does with its descriptors
abbrev pub use_text : Allotment → List ℕ
use_text allotment = codes ": " ++ decimal allotment.workers ++ codes " workers, "
    ++ decimal allotment.clients ++ codes " clients at once"

-- the line of a notice, without its LF
abbrev pub notice_line : Notice → List ℕ
notice_line (notice.Descriptors allotment limit) = codes "note: " ++ decimal allotment.needed
    ++ codes " descriptors needed at most, " ++ decimal limit ++ codes " allowed"
    ++ use_text allotment
notice_line (notice.UnknownLimit allotment) = codes "note: " ++ decimal allotment.needed
    ++ codes " descriptors needed at most, limit unknown" ++ use_text allotment
notice_line notice.NoMemoryLimit =
    codes "note: no limit on memory is set (ulimit -v, LimitAS of the unit)"
notice_line (notice.Faults faults sessions) = codes "note: " ++ decimal faults ++ codes " of "
    ++ decimal sessions ++ codes " sessions ended by a fault"
notice_line notice.Memory = codes "note: memory ran out in a session or in a round"
notice_line notice.LedgerFull = codes "note: a total is too low, since it was full"

-- the line of a notice with its LF
abbrev pub notice_bytes : Notice → List ℕ
notice_bytes notice = notice_line notice ++ codes "\n"

-- the notice was written, or nothing, or the outlet failed
pub data HasNotice {O : Type 0} (takes : O → List ℕ → O → Type 0) (failures : O → ℕ)
    (old : O) (notice : Notice) (new : O) : Type 0 where
  Written : takes old (notice_bytes notice) new → HasNotice takes failures old notice new
  LeftOut : new ≡ old → HasNotice takes failures old notice new
  Failed : failures old < failures new → HasNotice takes failures old notice new

-- these notices were written one after another, and nothing else
pub record HasNotices {O : Type 0} (takes : O → List ℕ → O → Type 0) (failures : O → ℕ)
    (old new : O) : Type 0 where
  pub notices : List Notice
  pub each : Gains (HasNotice takes failures) old notices new

-- what is warned of in this text of a configuration was written, or nothing, or the outlet failed
pub data HasWarnings {O : Type 0} (takes : O → List ℕ → O → Type 0) (failures : O → ℕ)
    (json : List ℕ) (old new : O) : Type 0 where
  Warned : (text : List ℕ) → IsWarnedOf json text → takes old text new
      → HasWarnings takes failures json old new
  NotWarned : new ≡ old → HasWarnings takes failures json old new
  WarningFailed : failures old < failures new → HasWarnings takes failures json old new

-- what is said of the address of an option that may be left out: nothing where it is
abbrev pub IsNoteIfAny : List ℕ → Option (List ℕ) → List ℕ → Type 0
IsNoteIfAny front None note = note ≡ []
IsNoteIfAny front (Some address) note = IsAddressNote front address note

-- what is said of the addresses that the options give: of that of the clients, and then of that of
-- the metrics
pub record AreOptionNotes (options : ServeOptions) (text : List ℕ) : Type 0 where
  pub listen : List ℕ
  pub metrics : List ℕ
  pub of_listen : IsAddressNote (codes "--listen") (string_bytes options.listen) listen
  pub of_metrics :
      IsNoteIfAny (codes "--metrics") (option_map string_bytes options.metrics) metrics
  pub is : text ≡ listen ++ metrics

-- a server says what is warned of in the text of its configuration, and then what is said of the
-- addresses of its options
pub record HasServerWarnings {O : Type 0} (takes : O → List ℕ → O → Type 0) (failures : O → ℕ)
    (options : ServeOptions) (old new : O) : Type 0 where
  pub middle : O
  pub warnings : HasWarnings takes failures (string_bytes options.config) old middle
  pub addresses : HasLineOf takes failures (AreOptionNotes options) middle new

-- a server says what is warned of, and then there are notices
pub record HasServerNotes {O : Type 0} (takes : O → List ℕ → O → Type 0) (failures : O → ℕ)
    (options : ServeOptions) (old new : O) : Type 0 where
  pub middle : O
  pub warnings : HasServerWarnings takes failures options old middle
  pub notices : HasNotices takes failures middle new

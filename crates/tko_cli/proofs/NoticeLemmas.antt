-- Notices that were written one after another.
use Rattle.std.proofs.Common.{ℕ, ◌<◌, List, [], ◌∷◌, ◌++◌, Ok, Err, OnErr, OnOk, Result}
use Rattle.tko_explain.specs.Reports.{IsWarnedOf}
use Rattle.tko_model.proofs.RecordLemmas.{gains_append, gains_none, gains_one}
use Rattle.tko_cli.specs.Notices.{HasNotice, HasNotices, HasServerNotes, HasServerWarnings, HasWarnings, Warned, WarningFailed}
use Rattle.tko_cli.specs.declared.notice.Notice.{Notice}
use Rattle.tko_options.specs.declared.serve_options.ServeOptions.{ServeOptions}

pub no_notice : {O : Type 0} (takes : O → List ℕ → O → Type 0) (failures : O → ℕ) (at : O)
    → HasNotices takes failures at at
no_notice takes failures at = record { notices = []; each = gains_none at }

pub one_notice : {O : Type 0} (takes : O → List ℕ → O → Type 0) (failures : O → ℕ) (old new : O)
    (notice : Notice) → HasNotice takes failures old notice new → HasNotices takes failures old new
one_notice takes failures old new notice has = record { notices = notice ∷ []; each = gains_one has }

pub more_notices : {O : Type 0} (takes : O → List ℕ → O → Type 0) (failures : O → ℕ) (old mid new : O)
    → HasNotices takes failures old mid → HasNotices takes failures mid new
    → HasNotices takes failures old new
more_notices takes failures old mid new front back =
    record { notices = front.notices ++ back.notices; each = gains_append front.each back.each }

-- what a server warns of, and then its notices
pub server_noted : {O : Type 0} (takes : O → List ℕ → O → Type 0) (failures : O → ℕ) (options : ServeOptions)
    (old mid new : O) → HasServerWarnings takes failures options old mid → HasNotices takes failures mid new
    → HasServerNotes takes failures options old new
server_noted takes failures options old mid new front back = record { middle = mid; warnings = front; notices = back }

-- what is warned of was written, or the outlet failed
pub warned : {O T E : Type 0} (takes : O → List ℕ → O → Type 0) (failures : O → ℕ) (json text : List ℕ)
    (old new : O) (result : Result T E) → IsWarnedOf json text → OnOk result (takes old text new)
    → OnErr result (failures old < failures new) → HasWarnings takes failures json old new
warned takes failures json text old new (Ok it) is went failed = Warned text is went
warned takes failures json text old new (Err it) is went failed = WarningFailed failed
